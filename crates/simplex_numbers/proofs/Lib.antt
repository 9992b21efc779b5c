-- L
pub mod Orders
pub mod Rows
pub mod Numbers
pub mod Keeping
pub mod Everywhere
pub mod Tilts
pub mod Flat
pub mod Holding
pub mod Sides
pub mod Compared
pub mod Epsilons
pub mod Neighbours
