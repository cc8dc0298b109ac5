mod Asking
mod Changed
mod NewsTexts
mod Paths
mod ReplyLines
mod Shown
mod Takes
mod Texts
