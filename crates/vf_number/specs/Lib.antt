pub mod Bytes
pub mod Runs
pub mod Numbers
pub mod Laws
pub mod Reading
