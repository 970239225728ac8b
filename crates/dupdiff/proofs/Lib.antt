pub mod Earlier
pub mod Leaning
