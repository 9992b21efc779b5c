-- The lemmas of this crate.
mod ClauseSteps
pub mod FormSteps
pub mod FoundTerms
pub mod HeadSteps
pub mod Indexes
pub mod Joining
pub mod KnownSteps
pub mod NeededTerms
mod Negations
pub mod PlacesUsed
pub mod ReadyForms
mod Shapes
pub mod Steps
mod SumSteps
