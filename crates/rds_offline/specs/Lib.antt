pub mod Copies
pub mod Letters
pub mod Merging
pub mod Next
