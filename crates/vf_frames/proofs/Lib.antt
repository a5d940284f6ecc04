pub mod ListLemmas
pub mod SetLemmas
pub mod StackLemmas
pub mod CountLemmas
pub mod NoteLemmas
pub mod HolderLemmas
pub mod CallerLemmas
