pub mod Table
pub mod Lawful
pub mod Make
pub mod TableMeaning
pub mod Laid
