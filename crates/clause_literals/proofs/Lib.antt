-- The lemmas of this crate.
pub mod LiteralLists
pub mod TableLiterals
pub mod Start
pub mod Statuses
pub mod Advancing
pub mod Once
pub mod Noting
pub mod Counting
pub mod Tracking
pub mod Quiet
pub mod Passes
pub mod Stepping
