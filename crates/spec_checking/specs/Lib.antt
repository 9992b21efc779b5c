-- What a proof of a script's check is, and when it is accepted.
pub mod Commands
pub mod Reading
pub mod Judging
pub mod Good
pub mod Assumes
pub mod Limits
pub mod Accepted
pub mod OnLiterals
pub mod Examples
pub mod ProofTexts
