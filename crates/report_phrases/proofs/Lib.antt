pub mod Lengths
pub mod Page
