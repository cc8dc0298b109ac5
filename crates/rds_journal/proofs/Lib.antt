pub mod Crashes
mod Cutting
mod Ends
pub mod Format
mod Lasting
pub mod Moments
mod Places
