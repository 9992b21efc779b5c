-- What an explanation depends on, what its clauses say, and when it is one.
pub mod Claims
pub mod Rules
pub mod Basis
pub mod Steps
pub mod Needing
pub mod Choosing
