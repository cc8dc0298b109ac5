mod FoundLemmas
pub mod AheadLemmas
pub mod CountLemmas
pub mod EditFits
pub mod EditLemmas
pub mod FirstAbove
pub mod FitsLemmas
pub mod FriendLemmas
pub mod GrownLemmas
pub mod JoinLaws
pub mod MadeLemmas
pub mod MarkSums
pub mod Nothing
pub mod OneAhead
pub mod OneResult
pub mod RaiseLemmas
pub mod Sizes
