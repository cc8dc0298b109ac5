pub mod BothSnapshots
pub mod CertificateFormats
mod ClaimTexts
mod DecodedOnce
pub mod DigestFormats
pub mod ExchangeLemmas
mod HaveTexts
pub mod HelloFormats
pub mod InFormats
pub mod Longer
mod Parts
mod ReadSnapshots
mod ReadWithin
pub mod Replicas
mod ReplicaTests
mod SmallTexts
pub mod StateFormats
pub mod StateKeys
mod Texts
mod TwoParts
pub mod Whole
mod Within
