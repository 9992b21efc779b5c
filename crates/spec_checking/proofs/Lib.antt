-- The lemmas of this crate.
pub mod Good
pub mod Sound
pub mod Limits
pub mod Prefixes
pub mod Parts
pub mod Offsets
pub mod Within
pub mod Verdicts
pub mod Models
pub mod Bare
pub mod Refuting
pub mod Few
