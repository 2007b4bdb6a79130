pub mod Counting
pub mod Lacking
