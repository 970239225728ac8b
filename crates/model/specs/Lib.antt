pub mod Model
pub mod Sound
