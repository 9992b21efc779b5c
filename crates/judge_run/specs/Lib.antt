-- The definitions that contracts cite.
pub mod Judgings
pub mod Runs
pub mod Calls
