-- The lemmas of this crate.
pub mod CommandTrees
pub mod NamedTrees
pub mod Levels
