pub mod Cells
pub mod Examples
pub mod Guessed
pub mod Laws
pub mod Without
