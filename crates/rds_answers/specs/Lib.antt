pub mod Checked
pub mod Hashes
