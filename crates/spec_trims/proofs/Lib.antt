-- The lemmas of this crate.
pub mod Trimming
pub mod Alike
pub mod Made
pub mod Mentions
pub mod Fewer
pub mod Commands
pub mod Good
pub mod Flat
pub mod FlatReading
pub mod FlatShapes
pub mod FlatCommands
pub mod Texts
pub mod Used
