pub mod Runs
pub mod Fates
pub mod Calls
pub mod Cases
