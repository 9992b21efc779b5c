-- What a search over the whole language may answer: derivations, the clauses that it begins with, learned clauses, the
-- budget that they spend, and truths that meet clauses.
pub mod Quiet
pub mod Problems
pub mod Derivations
pub mod Base
pub mod Orders
pub mod Lemmas
pub mod Inputs
pub mod Learned
pub mod ExactChains
pub mod Spent
pub mod Models
pub mod Examples
pub mod Copies
pub mod Keeping
