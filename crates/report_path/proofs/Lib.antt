pub mod Cut
pub mod Examples
pub mod Kept
pub mod Lengths
pub mod Says
pub mod Whole
