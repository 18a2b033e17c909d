pub mod Sides
pub mod Widths
pub mod Parties
pub mod Handing
pub mod Settling
pub mod Sums
pub mod Whole
