pub mod Inner
pub mod Faults
pub mod Rules
pub mod Names
pub mod Selects
pub mod Sizes
pub mod Worths
