pub mod InFull
pub mod Placing
