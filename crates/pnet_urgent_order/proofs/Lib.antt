pub mod Insertion
pub mod Sums
pub mod Ordering
