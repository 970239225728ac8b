pub mod Outcomes
pub mod Keeping
