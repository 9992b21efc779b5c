-- What a conflict and its reasons are, what a conflict depends on, and what is learned from it.
pub mod Conflicts
pub mod Points
pub mod Rows
pub mod FixedRows
pub mod Learned
pub mod Analyses
