pub mod Finished
pub mod Work
