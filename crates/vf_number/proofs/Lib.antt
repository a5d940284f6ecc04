pub mod RunLemmas
pub mod Decimals
pub mod BitLists
pub mod Digits
pub mod Taking
pub mod Numbering
pub mod CallerLemmas
