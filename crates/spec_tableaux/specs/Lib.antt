-- Ordered fields, rows and exchanges over them, bounds, the least-variable rule, numbers with an infinitesimal part,
-- checks of bounds with them, and overflows.
pub mod Fields
pub mod Spaces
pub mod Rows
pub mod SolvedForms
pub mod Ranges
pub mod LeastVariable
pub mod States
pub mod Numbers
pub mod CheckOverflows
pub mod Examples
pub mod Deltas
pub mod Points
pub mod BoundsOverflows
pub mod Runs
pub mod Halves
pub mod DeltaExamples
