-- Why a check about numbers is not decided.
pub mod TermTableau
pub mod Shared
pub mod Bounds
pub mod Reached
pub mod Counts
pub mod Reasons
pub mod Causes
pub mod Checks
