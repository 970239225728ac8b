pub mod Cases
pub mod Laid
