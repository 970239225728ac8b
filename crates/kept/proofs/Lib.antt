pub mod Steps
pub mod Laws
pub mod Frame
pub mod Later
