pub mod BelowLemmas
pub mod DrawnLemmas
pub mod Found
pub mod Nothing
pub mod Puts
pub mod Raises
pub mod SameCounts
pub mod Totals
