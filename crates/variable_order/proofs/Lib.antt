-- Lemmas on rows of variables.
pub mod Rows
