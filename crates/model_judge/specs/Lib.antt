-- The definitions that contracts cite.
pub mod Untrue
pub mod Verdicts
