-- Lemmas on commands: their parts, the places of their faults, and what they keep.
pub mod Parts
pub mod Offsets
pub mod Levels
pub mod Carried
pub mod Kept
pub mod Literals
pub mod Asked
