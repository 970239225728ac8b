pub mod Stands
pub mod Next
