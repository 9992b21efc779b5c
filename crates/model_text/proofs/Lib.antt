-- Lemmas on the texts of models.
pub mod Texts
pub mod Loops
