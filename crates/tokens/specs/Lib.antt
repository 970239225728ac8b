pub mod Tokens
pub mod Inside
