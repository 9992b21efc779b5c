-- Lemmas on sessions.
pub mod Delivering
pub mod Taking
pub mod Answering
