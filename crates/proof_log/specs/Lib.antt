-- What a log holds and says over a table, and what comes of adding to it.
pub mod Logs
pub mod Entries
pub mod Faults
pub mod Reaches
pub mod Levels
pub mod Keeping
pub mod Moving
pub mod Adding
pub mod Clashes
pub mod Theories
pub mod Meanings
