pub mod Kept
pub mod Report
pub mod Told
