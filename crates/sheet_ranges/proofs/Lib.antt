pub mod Ranges
pub mod InPage
pub mod Fits
pub mod Examples
