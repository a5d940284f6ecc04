pub mod JobLemmas
pub mod PointLemmas
pub mod DecisionLemmas
pub mod StartLemmas
pub mod JournalLemmas
pub mod WholeLemmas
pub mod FarmLemmas
pub mod ReplayLemmas
pub mod ImageLists
pub mod HoldingLemmas
pub mod AfterLemmas
pub mod TightLemmas
pub mod CallerLemmas
mod Rows
