pub mod Choice
pub mod Every
pub mod Memory
pub mod Lent
