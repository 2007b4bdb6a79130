pub mod Answer
pub mod Declared
pub mod Examples
pub mod Rule
pub mod Same
pub mod Shorter
pub mod Sizes
