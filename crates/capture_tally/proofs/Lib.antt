pub mod Answers
pub mod Hearing
pub mod Judged
pub mod Seam
pub mod Split
