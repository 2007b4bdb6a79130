pub mod Log
pub mod Records
pub mod Refusals
