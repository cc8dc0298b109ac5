pub mod Checks
pub mod MarkHalves
pub mod Tellings
