pub mod Examples
pub mod Following
pub mod Means
pub mod Passed
pub mod Pieces
