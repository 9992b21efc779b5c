-- Lemmas on runs, places, strings, pieces and the lexemes of a text.
pub mod Runs
pub mod Steps
pub mod Strings
pub mod Prefixes
pub mod Reading
