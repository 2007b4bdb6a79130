pub mod Counts
pub mod Examples
pub mod Lengths
pub mod Same
pub mod Verdict
