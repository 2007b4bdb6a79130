pub mod Meaning
pub mod Refusals
pub mod Rewriting
