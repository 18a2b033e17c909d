pub mod Mapped
pub mod HeldLots
pub mod Noticed
pub mod Ended
pub mod PairedOff
