pub mod Subtree
pub mod Limits
pub mod Tables
pub mod Jobs
pub mod Kinds
pub mod Copies
pub mod Setup
pub mod SetupInner
