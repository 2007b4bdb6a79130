pub mod Lengths
pub mod Ready
pub mod Records
pub mod Refusals
pub mod Sheets
pub mod Whole
