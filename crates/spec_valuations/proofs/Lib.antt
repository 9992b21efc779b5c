-- The lemmas of this crate.
pub mod SameValues
pub mod Meeting
pub mod Interpreting
pub mod Joint
pub mod Choices
pub mod Closures
pub mod Formulas
pub mod Speaking
pub mod Applications
pub mod Linear
pub mod Saturating
pub mod Numberless
pub mod Numbered
pub mod Named
pub mod TruthsAlone
