mod Additions
mod Bounds
mod Changes
mod Clashes
mod DeadSets
mod Deaths
mod Gathers
mod Joins
mod Lookups
mod Moves
mod Puts
mod Reaches
mod Singles
pub mod Counting
pub mod Finds
pub mod GapRows
pub mod Kills
pub mod LifeOrder
pub mod LivedLemmas
pub mod MappedRows
pub mod NothingSeen
pub mod PastRows
pub mod RowLemmas
pub mod Steps
pub mod Views
