pub mod Fault
pub mod Report
pub mod Inputs
pub mod Work
pub mod Answer
pub mod Promise
pub mod Steps
