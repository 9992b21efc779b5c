-- What a run of a script does.
pub mod Runs
pub mod Answering
pub mod Reading
pub mod Scripts
