pub mod Bits
pub mod Numbers
pub mod Operators
pub mod Choices
pub mod Planes
pub mod Shapes
