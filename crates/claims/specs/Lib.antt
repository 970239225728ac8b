pub mod Claims
pub mod Causes
