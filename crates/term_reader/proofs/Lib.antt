-- The lemmas of this crate.
pub mod Shapes
pub mod Digits
pub mod NameStacks
pub mod Tables
pub mod Putting
pub mod Folding
pub mod Taken
pub mod Applied
pub mod OverTable
