pub mod Joined
pub mod Tables
pub mod Passes
pub mod Filling
pub mod Writes
