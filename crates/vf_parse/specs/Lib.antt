pub mod Grammar
pub mod Reading
pub mod LeftOut
pub mod Deep
pub mod Parsing
