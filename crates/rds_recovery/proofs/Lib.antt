mod AtAnyMoment
mod BrokenOff
mod EventsOf
mod Outlasting
mod ReadingOn
mod WholeWithin
