pub mod Runs
pub mod OneByOne
pub mod Running
