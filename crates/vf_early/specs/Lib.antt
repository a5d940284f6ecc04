pub mod Tokens
pub mod Words
pub mod Grammar
pub mod Early
pub mod Reading
