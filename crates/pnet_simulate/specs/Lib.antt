pub mod Simulated
pub mod Told
