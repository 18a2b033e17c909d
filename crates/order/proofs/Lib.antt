pub mod FirstIs
pub mod FirstLeast
pub mod Searching
pub mod Reduces
pub mod Sweep
