pub mod Follow
pub mod Placed
