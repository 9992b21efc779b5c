-- The lemmas of this crate.
pub mod Counts
pub mod NumberTexts
pub mod NamedWords
pub mod NamedSorts
pub mod ElementWords
pub mod WrittenValues
pub mod Stopping
pub mod BodyTexts
pub mod ParameterTexts
pub mod DefinitionTexts
pub mod Remains
pub mod Readers
pub mod TablesMade
pub mod ReadDefinitions
