-- Lemmas of this crate.
mod Asserted
mod MarkedLeads
pub mod Batches
pub mod Leading
