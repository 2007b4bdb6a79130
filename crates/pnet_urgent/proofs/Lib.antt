pub mod Spreads
pub mod Tied
pub mod Searching
pub mod Solving
pub mod Answers
