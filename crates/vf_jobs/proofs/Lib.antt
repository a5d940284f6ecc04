pub mod SubtreeLemmas
pub mod KindLemmas
pub mod LimitLemmas
pub mod SaveLemmas
pub mod DecisionLemmas
pub mod AlikeLemmas
pub mod CopyLemmas
pub mod CallerLemmas
