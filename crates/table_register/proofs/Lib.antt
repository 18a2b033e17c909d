pub mod Overs
pub mod Tables
pub mod Enters
pub mod Makes
pub mod Rows
