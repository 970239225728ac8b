pub mod Repeats
pub mod Repeating
