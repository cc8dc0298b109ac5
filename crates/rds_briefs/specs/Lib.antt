pub mod BriefTexts
pub mod Briefs
pub mod Lives
pub mod ReadBriefs
pub mod ReadLives
pub mod Readers
pub mod RunsRead
pub mod Texts
