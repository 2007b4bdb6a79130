pub mod Stored
pub mod Trips
pub mod Writing
pub mod Examples
