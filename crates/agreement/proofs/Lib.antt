-- That neighbours in a list in order tell of all.
pub mod Sorted
pub mod Orders
pub mod Clashes
