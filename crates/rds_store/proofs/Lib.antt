mod ChangeLemmas
mod Events
mod Naming
mod Taken
