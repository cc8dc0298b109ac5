pub mod Disks
pub mod Standing
