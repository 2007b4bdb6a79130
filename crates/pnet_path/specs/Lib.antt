pub mod Path
pub mod Refusals
pub mod Ways
