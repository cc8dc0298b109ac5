mod Adding
pub mod CounterFormats
pub mod DotFormats
pub mod DotRowSteps
mod EntryFormats
mod EntryParts
pub mod Format
mod HaveTexts
pub mod KeyLoops
pub mod Lengths
pub mod Lists
pub mod LiveFormats
mod Loops
pub mod MetKeys
pub mod NumberLaws
pub mod NumberedTexts
mod PackedFormats
pub mod PartFormats
mod PlaceLaws
mod ReadPacked
mod RowAlgebra
mod RowSets
mod RunSteps
pub mod Sequences
mod SetRowLemmas
pub mod ShortKeys
pub mod SteadyRows
pub mod TableFormats
pub mod TableLaws
pub mod TabledFormats
mod WrittenPacked
