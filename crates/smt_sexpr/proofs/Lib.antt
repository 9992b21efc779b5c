-- The lemmas of this crate.
pub mod Flat
pub mod Contexts
pub mod Words
pub mod Broken
pub mod Meaning
pub mod Offsets
pub mod Limits
pub mod Inner
pub mod Tokens
pub mod Reading
pub mod Splitting
