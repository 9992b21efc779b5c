-- The lemmas of this crate.
pub mod Keywords
pub mod Namings
pub mod Members
pub mod Entries
pub mod PremiseLists
pub mod Rooms
pub mod CoefficientTexts
pub mod ReadParts
pub mod ReadCommands
pub mod Rows
pub mod Remains
pub mod Readers
