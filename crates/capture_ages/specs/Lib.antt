pub mod Ages
pub mod Clock
pub mod Timed
