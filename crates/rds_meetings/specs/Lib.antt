pub mod Ends
pub mod Forks
pub mod Pairing
pub mod Piping
pub mod Reports
pub mod Settling
pub mod Syncing
