pub mod Turns
pub mod Memory
