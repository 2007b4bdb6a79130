pub mod Answered
pub mod Checks
pub mod Firsts
pub mod FromZero
pub mod Outside
pub mod Runs
pub mod Sums
