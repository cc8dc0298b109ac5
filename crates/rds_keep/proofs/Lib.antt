mod Appended
mod BehindParts
pub mod Chains
pub mod ChangeTexts
mod FedSoFar
mod FeedSteps
pub mod Files
mod FirstParts
mod Foreign
mod FrontSoFar
mod Fronts
mod KeptTexts
mod LedSoFar
pub mod PiecesSoFar
mod ReadWhole
mod ReplaySteps
mod Replaying
pub mod Showing
mod SnapshotsStay
pub mod SumTexts
pub mod TextParts
pub mod WrittenSoFar
