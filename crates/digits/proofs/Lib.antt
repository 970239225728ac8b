pub mod Laws
pub mod Fractions
pub mod Steps
