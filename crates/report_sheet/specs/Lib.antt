pub mod Arrays
pub mod Stored
pub mod Whole
