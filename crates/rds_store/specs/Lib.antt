pub mod Changes
pub mod Documents
pub mod Edits
pub mod Events
pub mod Files
pub mod Looks
pub mod Meetings
pub mod Noting
