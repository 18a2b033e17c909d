pub mod EmptyHouse
pub mod Roomy
pub mod Blank
pub mod Dispatched
pub mod Entered
