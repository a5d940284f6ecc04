pub mod Answers
pub mod Options
pub mod Words
pub mod Ranges
pub mod Pages
