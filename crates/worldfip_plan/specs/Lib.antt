pub mod Answer
pub mod Held
pub mod Refusals
