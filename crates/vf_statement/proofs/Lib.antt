pub mod Depth
mod FrontLemmas
mod Sound
mod Shorter
mod Complete
mod Wholes
pub mod CallerLemmas
