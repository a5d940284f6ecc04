pub mod Machine
pub mod Search
pub mod Run
pub mod Writes
pub mod Pages
pub mod Solo
pub mod Laws
