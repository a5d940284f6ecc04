pub mod Writing
pub mod Holding
pub mod Future
pub mod Moves
pub mod Updates
pub mod Slots
pub mod Due
pub mod Promotions
