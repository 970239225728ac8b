pub mod Spelling
pub mod Fitting
pub mod Holding
pub mod Loops
