pub mod Runs
pub mod Simulators
pub mod Standing
pub mod Calls
pub mod Images
