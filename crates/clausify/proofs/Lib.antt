-- The lemmas of this crate.
pub mod Counts
pub mod Taken
pub mod Equalities
pub mod Overflowing
pub mod Unmarking
pub mod Following
pub mod OrderFacts
pub mod Bases
