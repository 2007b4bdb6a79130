pub mod Table
pub mod Tally
