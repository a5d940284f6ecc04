pub mod PoolLemmas
pub mod WorkLemmas
