pub mod Moves
pub mod Ways
pub mod Laws
pub mod Frame
pub mod Forward
