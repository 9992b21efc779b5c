-- The lemmas of this crate.
pub mod Places
pub mod Denials
pub mod Keys
pub mod Terms
pub mod Numbering
pub mod SaturatedClosure
pub mod Growing
pub mod Joining
pub mod Steps
pub mod Queues
pub mod Turning
pub mod Marks
pub mod Prefixes
