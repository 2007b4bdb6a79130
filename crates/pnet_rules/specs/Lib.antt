pub mod Segment
pub mod Search
pub mod Refined
pub mod Limits
pub mod Bus
