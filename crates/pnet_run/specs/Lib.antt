pub mod Run
pub mod Promise
