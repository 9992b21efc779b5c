-- What clauses are, and which steps are right by their rules.
pub mod Clauses
pub mod Truths
pub mod Schemes
pub mod Rules
pub mod Examples
