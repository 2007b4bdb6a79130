pub mod Begins
pub mod Behind
pub mod Editions
pub mod Gathered
pub mod Judged
pub mod Kept
pub mod Taken
