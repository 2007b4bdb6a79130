pub mod Divides
pub mod Members
pub mod Picks
pub mod Row
