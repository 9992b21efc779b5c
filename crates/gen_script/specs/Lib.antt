-- The scripts that are made, by their size.
pub mod Scripts
