-- The reading of texts into terms.
pub mod Names
pub mod Sorts
pub mod Reading
pub mod Definitions
pub mod WellSorted
pub mod Agreement
pub mod OnLiterals
pub mod Examples
