pub mod Waits
pub mod Visits
pub mod Sound
pub mod Runs
pub mod Responses
pub mod Zeros
