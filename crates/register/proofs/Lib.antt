pub mod Sums
pub mod Meanings
pub mod Alike
pub mod Payments
pub mod Lawfuls
