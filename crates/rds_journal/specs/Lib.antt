pub mod Appending
pub mod Crashes
pub mod Device
pub mod Records
