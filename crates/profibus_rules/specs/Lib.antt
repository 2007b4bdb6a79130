pub mod Ring
pub mod Target
