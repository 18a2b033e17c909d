pub mod Faults
pub mod Rules
pub mod Registers
pub mod Instructions
pub mod Deliveries
