pub mod Noticing
pub mod NextSession
