pub mod Repeats
pub mod Sound
