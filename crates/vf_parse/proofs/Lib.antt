pub mod Counting
mod Shorter
mod Sound
mod Complete
pub mod Wholes
