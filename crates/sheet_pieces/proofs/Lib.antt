pub mod Held
pub mod Kept
pub mod Stepped
pub mod Whole
