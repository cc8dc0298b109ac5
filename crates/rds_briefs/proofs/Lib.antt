mod AfterBriefs
pub mod Apart
pub mod AsRead
mod BitSteps
mod BitsRead
pub mod BriefsRead
mod Counted
mod DigestsRead
mod FormsRead
mod Fronts
mod Judged
mod LengthSteps
mod LengthsRead
mod LivesApart
mod PackedFronts
mod Putting
mod ReadingLives
mod RunSteps
mod Shorter
mod StretchLemmas
mod Trying
