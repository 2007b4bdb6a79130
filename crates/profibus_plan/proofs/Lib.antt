pub mod Answers
pub mod Examples
pub mod Passing
pub mod Same
pub mod Tight
