pub mod Judgement
pub mod Inside
