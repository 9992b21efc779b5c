-- Tableaus with a value of each variable, and what a feasibility check does to them.
pub mod Assignments
pub mod Kept
pub mod Changes
pub mod Moves
pub mod Ends
pub mod Suspects
