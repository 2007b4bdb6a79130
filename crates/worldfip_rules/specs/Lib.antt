pub mod Table
pub mod Build
pub mod Traffic
pub mod Misses
