pub mod Orders
pub mod Pairing
pub mod Lines
pub mod Laws
pub mod InWords
pub mod Cases
pub mod StageNumber
