-- What a model file says, and the verdict on it.
pub mod Faults
pub mod Values
pub mod Bodies
pub mod Definitions
pub mod Texts
pub mod Verdicts
pub mod Limits
pub mod Meaning
pub mod OnLiterals
pub mod Examples
pub mod FileExamples
