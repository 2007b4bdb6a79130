pub mod Masters
pub mod Gathering
pub mod Bytes
pub mod Tied
pub mod Cases
pub mod Refusals
pub mod Examples
