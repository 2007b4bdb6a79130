pub mod Declares
pub mod Figures
pub mod Held
