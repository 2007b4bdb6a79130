pub mod Examples
pub mod Lines
