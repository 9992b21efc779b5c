-- The lemmas of this crate.
pub mod Interpreting
pub mod LiteralTruths
pub mod ListedValues
pub mod NumbersGiven
pub mod SymbolRows
pub mod TablesMade
pub mod Noting
