pub mod Checks
pub mod Runs
pub mod Sums
