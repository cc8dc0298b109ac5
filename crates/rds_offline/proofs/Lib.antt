pub mod Brought
mod Changed
mod Copied
mod Lacking
mod Longer
pub mod Lettered
pub mod MergeEvents
mod NextReplicas
