pub mod Laws
pub mod Always
pub mod Steps
pub mod Cases
