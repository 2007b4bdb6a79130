pub mod Examples
pub mod Lengths
pub mod Numbers
pub mod Writing
pub mod Zeros
