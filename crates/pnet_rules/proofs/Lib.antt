pub mod Examples
pub mod Sequence
pub mod Right
pub mod Holds
pub mod Figures
pub mod Editions
pub mod Declares
