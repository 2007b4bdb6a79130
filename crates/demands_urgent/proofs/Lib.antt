pub mod Written
pub mod Kept
pub mod FirstCome
pub mod Captured
pub mod Beside
pub mod Case
