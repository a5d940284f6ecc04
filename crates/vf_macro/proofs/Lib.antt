pub mod LineLemmas
pub mod Counting
pub mod Insides
pub mod Parts
pub mod MacroTexts
