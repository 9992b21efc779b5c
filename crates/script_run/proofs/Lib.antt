-- Lemmas on runs of scripts.
pub mod TextRuns
pub mod Saying
pub mod Refusing
pub mod Going
pub mod Leaving
pub mod Turning
