-- Lemmas on forms in lowest terms, on sums of constraints, and on overflows.
pub mod LowestForms
pub mod Reversed
pub mod Tidy
pub mod Refuting
pub mod EntryValues
pub mod PairSigns
pub mod Infeasible
pub mod Taken
pub mod PairOrder
pub mod Comparisons
pub mod Failing
pub mod Operations
pub mod FormFaults
pub mod RuleFaults
pub mod TableauFaults
