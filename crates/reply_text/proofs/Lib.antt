-- Lemmas on the texts of responses.
pub mod Numbers
pub mod Overflows
