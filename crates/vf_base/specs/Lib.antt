pub mod Decimal
pub mod Count
