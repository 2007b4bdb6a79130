pub mod Examples
pub mod Leads
pub mod True
