-- What literals of linear arithmetic say, points and numbers that keep them, sums that show that none does, forms in a
-- tableau, and overflows.
pub mod Constraints
pub mod Points
pub mod Weights
pub mod Entries
pub mod Numbers
pub mod Examples
pub mod Overflows
