pub mod Tags
pub mod Tokens
