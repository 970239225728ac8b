pub mod Puts
pub mod Passes
