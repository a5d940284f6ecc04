pub mod DecimalLemmas
pub mod OptionLemmas
