-- Literals and terms by their signs, what propagation finds under literals that hold, and how it goes on.
pub mod Literals
pub mod Polarities
pub mod Statuses
pub mod Occurring
pub mod Propagation
pub mod Scanning
