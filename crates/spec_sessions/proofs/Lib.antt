-- Lemmas on runs.
pub mod NoCommands
pub mod Offsets
pub mod Checks
pub mod Running
pub mod Computed
pub mod Refuted
pub mod Apart
mod Cored
pub mod Suffices
