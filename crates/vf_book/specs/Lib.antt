pub mod Book
pub mod Attempts
pub mod Forks
