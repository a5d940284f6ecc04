pub mod FlagLemmas
pub mod Progress
