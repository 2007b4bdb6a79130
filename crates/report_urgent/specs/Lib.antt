pub mod Stored
pub mod Whole
