pub mod Looks
pub mod Arrays
pub mod Searching
