mod Scanning
mod Numbers
mod Tokens
mod Texts
pub mod Depth
mod Sound
mod Complete
mod Places
mod Designs
