-- Lemmas on lines.
pub mod Lines
