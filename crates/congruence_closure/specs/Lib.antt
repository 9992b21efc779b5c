-- What contracts see of a closure, and what its parts keep.
pub mod Closure
pub mod Listed
pub mod Tables
pub mod Keys
pub mod State
pub mod Changes
pub mod Kept
pub mod Whole
