pub mod Entering
pub mod DayTable
pub mod DayMeaning
pub mod DayLawful
