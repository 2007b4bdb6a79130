pub mod Rounding
pub mod Verdict
pub mod Legs
pub mod Page
