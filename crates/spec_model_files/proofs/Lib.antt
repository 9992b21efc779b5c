-- Why the laws of model files hold.
pub mod Offsets
pub mod Endings
pub mod Within
pub mod Sorted
pub mod Models
pub mod Agreement
pub mod PrintedValues
pub mod PrintedBodies
pub mod PrintedFiles
pub mod Prefixes
pub mod Whole
pub mod Places
pub mod Meaning
