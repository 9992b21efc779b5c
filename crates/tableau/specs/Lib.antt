-- What the rows of the code mean, and what contracts see of a tableau.
pub mod Numbers
pub mod Entries
pub mod Views
pub mod Kept
pub mod Sums
pub mod Pivots
pub mod Flattenings
