pub mod Kept
pub mod Recorded
pub mod Steps
pub mod Whole
