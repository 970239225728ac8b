pub mod Names
pub mod Judge
pub mod Keeps
