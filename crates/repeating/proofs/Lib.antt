pub mod Spelling
pub mod Repeating
