-- What the numbers of the code are.
pub mod Meant
