-- The lemmas of this crate.
mod Starts
mod Counted
mod Closing
mod Supports
mod Printed
mod Texts
mod TermNumbers
mod Wholes
pub mod Listing
pub mod Logging
mod WellSorted
mod Decimals
mod Counts
mod Heights
mod Assuming
