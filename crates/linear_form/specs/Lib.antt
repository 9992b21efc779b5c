-- What forms, arguments and faults of the code mean.
pub mod Clauses
pub mod Coefficients
pub mod Entries
pub mod Literals
pub mod Making
pub mod Meant
pub mod Orders
pub mod Sums
pub mod Walks
