pub mod Destinations
pub mod Troubles
