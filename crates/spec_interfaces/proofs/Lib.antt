-- Lemmas on interface equalities.
pub mod Apart
