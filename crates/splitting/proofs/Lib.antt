pub mod Runs
pub mod Cuts
pub mod Rule
