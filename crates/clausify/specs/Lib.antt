-- The clauses of terms in a log, the terms that a search of them speaks of, and the orders of equalities.
pub mod Orders
pub mod Overflows
pub mod Unmarking
pub mod HavingClauses
pub mod SearchTerms
