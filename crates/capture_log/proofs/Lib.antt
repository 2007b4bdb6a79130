pub mod Heard
pub mod Joined
pub mod Laws
pub mod Records
pub mod Stamps
pub mod Refusals
pub mod Examples
