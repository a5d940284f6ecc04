pub mod RowLemmas
mod WordLemmas
mod Fronts
mod Shorter
mod Sound
mod Complete
mod Wholes
pub mod CallerLemmas
