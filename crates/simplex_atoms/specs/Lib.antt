-- Which variable of a tableau an atom of linear arithmetic bounds, and by which value.
pub mod Owners
pub mod Stops
pub mod Slacks
pub mod Limits
pub mod Grounded
pub mod Sums
pub mod Atoms
pub mod Watching
pub mod Made
pub mod TermTableauViews
pub mod Grown
