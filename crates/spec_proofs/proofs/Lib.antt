-- The lemmas of this crate.
pub mod Chains
pub mod Limits
pub mod Endings
pub mod Prefixes
