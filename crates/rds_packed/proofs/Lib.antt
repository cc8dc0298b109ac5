pub mod Combined
mod CountFormats
mod CountsRead
mod CountsSpelled
mod DotFormats
mod EntryFormats
mod EntrySteps
mod FrontLaws
mod FrontKeys
mod KeySteps
mod ListFormats
mod LongNumbers
mod Loops
mod MetInTurn
mod NumbersSpelled
mod RowAlgebra
pub mod RowFormats
pub mod RowLengths
mod RowSets
mod RowsMet
mod RowsRead
mod SeenFormats
pub mod SeenLengths
mod SeenRead
mod SeenRuns
mod SeenWalks
mod SeenWithin
mod Steps
mod ValueFormats
