pub mod Arrays
pub mod Planned
pub mod Refusals
