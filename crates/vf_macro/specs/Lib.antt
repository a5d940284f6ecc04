pub mod MacroText
pub mod Scanning
pub mod Laws
