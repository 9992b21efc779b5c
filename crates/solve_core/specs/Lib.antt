-- The definitions that contracts cite: what is decided, and what is shown from the beginning to an answer.
pub mod Forms
pub mod Beginning
pub mod Relating
pub mod Answering
pub mod Sharing
pub mod Agreeing
pub mod Unspoken
pub mod GoingOn
pub mod Decisions
