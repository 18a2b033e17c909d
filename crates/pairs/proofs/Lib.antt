mod HandedLots
mod MaskedHolders
mod AllPairs
pub mod SomePass
mod BookBounds
mod RuleContinued
mod Outcomes
pub mod WrittenLines
