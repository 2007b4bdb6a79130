pub mod Logged
pub mod Relayed
pub mod Pnet
pub mod Shown
