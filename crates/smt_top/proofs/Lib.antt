-- Lemmas on the parts of a run.
pub mod Numbers
pub mod Asked
pub mod InMemory
pub mod Answering
pub mod ScriptLines
pub mod GoingOn
pub mod Buffers
pub mod CommandLines
pub mod Programs
