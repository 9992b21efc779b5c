-- The lemmas of this crate.
pub mod Stated
pub mod Fitting
pub mod SlackFacts
pub mod Bounding
pub mod Reasoning
pub mod Coming
pub mod Judging
pub mod Suiting
pub mod TermNumbers
pub mod SharedTerms
pub mod TellingValues
pub mod NumbersApart
pub mod Hinting
