-- Lemmas on bytes that come and go.
pub mod Pieces
pub mod Sending
pub mod Chains
pub mod Buffering
pub mod Places
