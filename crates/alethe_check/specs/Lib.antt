-- The definitions that contracts cite.
pub mod Stating
pub mod Judging
pub mod Verdicts
