pub mod Judgement
pub mod Cursors
pub mod Growing
pub mod Behind
pub mod Turns
pub mod Frames
