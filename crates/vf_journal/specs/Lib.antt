pub mod Farm
pub mod Records
pub mod Effects
pub mod Journal
pub mod Holding
pub mod Machine
pub mod Laws
