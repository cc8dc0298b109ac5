pub mod Added
pub mod Cut
pub mod Inserted
pub mod Lookup
pub mod Operations
pub mod RunSets
