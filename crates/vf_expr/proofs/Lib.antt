mod PlaceLemmas
mod ReadLemmas
mod SelectLemmas
mod NodeLemmas
mod Weights
