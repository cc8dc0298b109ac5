pub mod Asked
pub mod Held
pub mod Looks
pub mod Promises
pub mod Told
