pub mod Numbers
pub mod Tables
pub mod Parts
pub mod Records
pub mod Examples
