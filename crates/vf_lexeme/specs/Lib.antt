pub mod Bytes
pub mod Words
pub mod Strings
pub mod Signs
pub mod Lexemes
pub mod Laws
pub mod Reading
