pub mod Files
pub mod Holders
