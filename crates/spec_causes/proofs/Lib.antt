-- Lemmas on the causes of an undecided check.
pub mod DeltaFaults
pub mod CheckFaults
pub mod NumberFaults
pub mod CauseFaults
pub mod Wider
pub mod Silent
pub mod IdleChecks
pub mod AtNumbers
pub mod SharedNumbers
pub mod Owned
