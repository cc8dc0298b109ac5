mod Cuts
mod Differ
mod Padding
mod Room
mod WordOrder
pub mod Ascii
pub mod Entries
pub mod Orders
