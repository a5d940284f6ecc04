pub mod Account
pub mod Layout
pub mod Counts
pub mod Tables
pub mod Spreads
pub mod Evictions
pub mod Inner
