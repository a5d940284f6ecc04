pub mod PlainNames
pub mod Skipping
pub mod Stringing
pub mod Quoting
pub mod Signing
pub mod Lexing
pub mod Taking
pub mod Passing
