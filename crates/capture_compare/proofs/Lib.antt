pub mod Beside
pub mod Told
pub mod Refusals
