pub mod Parts
pub mod Number
pub mod Rows
pub mod Pages
