-- The lemmas of this crate.
pub mod Parts
pub mod Choosing
pub mod Arguments
pub mod Making
pub mod Within
pub mod Growing
pub mod SchemeClauses
pub mod Formulas
pub mod Bases
pub mod Marked
pub mod Marking
pub mod Listing
pub mod Speaking
