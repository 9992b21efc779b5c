-- What simplex holds and watches.
pub mod Views
pub mod Checks
pub mod Coming
pub mod Values
pub mod Numbers
pub mod Hints
