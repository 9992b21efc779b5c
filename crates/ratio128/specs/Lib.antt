-- What fractions of the code are.
pub mod Parts
pub mod Meant
pub mod OrderLaws
