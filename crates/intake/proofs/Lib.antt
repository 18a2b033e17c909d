pub mod Credited
pub mod Taken
pub mod Drawn
pub mod ReturnedDraws
