pub mod Checked
pub mod Laws
pub mod Same
