pub mod Loads
pub mod Alike
pub mod Walks
pub mod Carries
pub mod Blocks
