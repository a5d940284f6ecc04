pub mod Tables
pub mod PlaneLemmas
pub mod ListLemmas
pub mod NumberLemmas
pub mod OperatorLemmas
pub mod CallerLemmas
