pub mod Puts
pub mod Addresses
pub mod Standing
pub mod Changes
pub mod Regions
pub mod Laws
