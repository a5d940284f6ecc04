mod NodeLemmas
mod OperatorShapes
mod Shaped
mod LayoutLemmas
mod Sums
mod AddressLemmas
mod NoteLemmas
mod WakeLemmas
mod ReadsLemmas
mod TableLemmas
pub mod CallerLemmas
