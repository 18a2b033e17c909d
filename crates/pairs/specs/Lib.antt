pub mod Search
pub mod Records
pub mod Refusals
pub mod Outcome
