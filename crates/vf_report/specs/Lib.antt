pub mod Tested
pub mod Totals
pub mod Texts
pub mod Report
pub mod Journal
pub mod Laws
