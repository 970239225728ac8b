pub mod Rows
pub mod Room
pub mod Back
pub mod Layout
pub mod Accepted
pub mod Demand
