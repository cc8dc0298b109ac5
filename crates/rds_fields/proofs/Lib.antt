mod TagTexts
pub mod Texts
