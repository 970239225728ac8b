pub mod Fronts
pub mod Shown
pub mod Spans
pub mod Steps
pub mod Walks
pub mod Names
pub mod Next
