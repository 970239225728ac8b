pub mod Replays
pub mod Steps
