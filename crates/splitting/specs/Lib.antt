pub mod Split
pub mod Rule
