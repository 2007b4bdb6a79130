pub mod Examples
pub mod Laws
pub mod Refusals
pub mod Whole
