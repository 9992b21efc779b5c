-- Lemmas on reading: values of what is read, closed texts, what is kept of signatures, sound and well-sorted ones, places of faults.
pub mod Values
pub mod Closed
pub mod Kept
pub mod Sound
pub mod WellSorted
pub mod Offsets
