pub mod Nesting
pub mod ListLemmas
mod WordLemmas
mod Small
mod Shorter
mod Sound
mod Complete
mod Wholes
pub mod CallerLemmas
