pub mod Compared
pub mod Steps
pub mod Refusals
