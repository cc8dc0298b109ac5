pub mod Conflicts
pub mod Differences
pub mod Dump
pub mod Evidence
pub mod Pieces
pub mod Presence
pub mod Raw
pub mod Standings
