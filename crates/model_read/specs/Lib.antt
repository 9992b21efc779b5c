-- The definitions that contracts cite: what reading each part of a model comes to, and which definitions are to come.
pub mod Answers
pub mod Numbers
pub mod Shapes
pub mod Values
pub mod Bodies
pub mod Definitions
pub mod Endings
pub mod Remaining
pub mod Readings
