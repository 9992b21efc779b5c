-- Lemmas on what answers questions.
pub mod Kept
pub mod Asked
pub mod Listed
pub mod Valued
pub mod ReadValues
pub mod Marked
pub mod CoreAsked
