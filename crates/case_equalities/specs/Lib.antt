-- Equalities that disjunctions lead to.
pub mod Leads
pub mod Finding
pub mod Stating
