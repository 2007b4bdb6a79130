pub mod Stack
pub mod Promise
