-- The definitions that contracts cite.
pub mod Loads
pub mod Standings
