pub mod Releases
pub mod Tallies
pub mod Blocks
