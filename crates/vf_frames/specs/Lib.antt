pub mod Numbers
pub mod Holders
pub mod Calls
pub mod FreeFrames
pub mod FrameSets
pub mod Plain
