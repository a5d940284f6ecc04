pub mod NameLemmas
pub mod ReaderLemmas
pub mod PlaceLemmas
pub mod ReadLemmas
pub mod Once
pub mod Wholes
pub mod Some
