-- What a run of a script writes: the answers of its commands, what shows that they are right, and what they then mean.
pub mod Refutations
pub mod Evidence
pub mod States
pub mod Questions
pub mod Cores
pub mod Replies
pub mod Responses
pub mod Transcripts
pub mod Meaning
pub mod Statements
pub mod Examples
pub mod ModeExamples
pub mod CoreExamples
