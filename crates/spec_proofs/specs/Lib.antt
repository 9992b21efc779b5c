-- What proofs are by their texts, and what resolution is.
pub mod Resolution
pub mod RuleNames
pub mod Faults
pub mod Texts
pub mod Examples
