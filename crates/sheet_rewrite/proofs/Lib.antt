pub mod Answers
pub mod Examples
pub mod Filled
pub mod Messages
pub mod Refusals
pub mod Renewed
pub mod Rewritten
