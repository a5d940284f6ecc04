pub mod Depth
mod TokenLemmas
mod Sound
mod Shorter
mod Complete
mod Wholes
mod Parts
pub mod CallerLemmas
