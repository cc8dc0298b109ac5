pub mod Growing
pub mod Heard
pub mod Hearing
pub mod Paired
pub mod Reported
pub mod Serving
pub mod Takes
