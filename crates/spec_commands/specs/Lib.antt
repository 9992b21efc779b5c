-- The commands of a script, what they leave, and what is current at a check.
pub mod Commands
pub mod Literals
pub mod Stack
pub mod Checks
pub mod Kept
pub mod OnLiterals
pub mod Examples
pub mod CheckExamples
pub mod OrderExamples
pub mod LevelExamples
pub mod GlobalExamples
pub mod Labels
pub mod LabelExamples
pub mod AnswerExamples
pub mod AssumingExamples
