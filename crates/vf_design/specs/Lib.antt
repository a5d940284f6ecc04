pub mod Program
pub mod Inner
pub mod State
pub mod Step
pub mod Words
pub mod Layout
pub mod Turn
pub mod Laws
