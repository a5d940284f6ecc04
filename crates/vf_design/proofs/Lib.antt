pub mod Sounds
pub mod Laid
pub mod ReadLemmas
pub mod CallerLemmas
