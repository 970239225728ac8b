pub mod Ways
pub mod Laws
pub mod Frame
