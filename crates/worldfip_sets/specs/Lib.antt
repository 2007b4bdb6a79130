pub mod Sets
pub mod Remainder
