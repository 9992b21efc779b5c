-- Literals of atoms.
pub mod Literals
-- What pairs of literals are of atoms.
pub mod Pairs
-- What literals of cycles are of atoms.
pub mod Cycles
