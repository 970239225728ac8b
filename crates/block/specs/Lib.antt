pub mod Streams
pub mod Block
pub mod Open
