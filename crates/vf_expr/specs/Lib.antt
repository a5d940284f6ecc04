pub mod Near
pub mod Reads
pub mod Joins
