pub mod Fronts
pub mod Values
pub mod Words
pub mod Worked
