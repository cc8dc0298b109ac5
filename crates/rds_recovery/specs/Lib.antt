pub mod AtAnyMoment
pub mod Events
pub mod Recovery
