pub mod Paths
pub mod Form
pub mod Seen
pub mod Answers
pub mod Reading
pub mod Rules
pub mod Inner
