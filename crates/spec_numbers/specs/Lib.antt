-- What numbers are.
pub mod Fractions
pub mod Bounds
pub mod Examples
