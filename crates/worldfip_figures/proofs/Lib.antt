pub mod Measured
pub mod Passing
pub mod Tied
pub mod Turns
