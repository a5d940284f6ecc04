pub mod JsonLemmas
pub mod NodeLemmas
pub mod PathLemmas
pub mod ReaderLemmas
pub mod CallerLemmas
