pub mod Heads
pub mod Headed
