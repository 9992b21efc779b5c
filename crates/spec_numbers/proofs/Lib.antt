-- Lemmas on numbers.
pub mod Gcd
pub mod Differences
pub mod Integers
pub mod Signs
pub mod Lowest
pub mod Field
pub mod Order
pub mod Bounds
