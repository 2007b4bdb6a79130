pub mod Urgent
pub mod Planned
pub mod Refusals
