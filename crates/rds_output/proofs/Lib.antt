pub mod Beginnings
pub mod DigitsSoFar
pub mod Failing
pub mod ReplyPieces
