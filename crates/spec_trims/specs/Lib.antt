-- What is kept of proofs for their first empty clause, and examples.
pub mod Trims
pub mod Used
pub mod Examples
