-- What a mark for one call comes to, and what a call of both theories does.
pub mod Marks
pub mod Checks
pub mod Watching
pub mod Implying
