pub mod Sorted
pub mod Patches
