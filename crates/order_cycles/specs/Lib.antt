-- What cycles of orders are.
pub mod Cycles
