-- Tables and logs that grow by the clauses of terms, and the terms that a search speaks of; the steps that state
-- clauses, marks of numbers, and choices.
pub mod Growth
pub mod SpokenTerms
pub mod Stating
pub mod Marks
pub mod Choices
