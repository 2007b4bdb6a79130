pub mod Cut
pub mod Examples
pub mod FirstCome
pub mod Says
pub mod Stored
pub mod Told
