pub mod Amounts
mod ConflictLines
mod Examples
mod Joined
mod Merged
mod OneKey
