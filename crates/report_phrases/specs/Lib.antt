pub mod Phrases
pub mod Reports
