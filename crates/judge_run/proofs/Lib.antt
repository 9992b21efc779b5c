-- Lemmas on the parts of a run that judges.
pub mod Verdicts
pub mod Statuses
pub mod Lengths
pub mod Taken
