-- Lemmas on values, rows and steps of a check.
pub mod Points
pub mod Writing
pub mod RowPlaces
pub mod Following
pub mod FirstOfRow
pub mod Summing
pub mod Shifts
pub mod Suspecting
pub mod KeptFirst
pub mod UpdatingNonbasic
pub mod Runs
pub mod Repeats
