pub mod Calls
pub mod Seeing
pub mod Following
pub mod Making
pub mod Leaving
