-- The definitions that contracts cite.
pub mod Outside
pub mod Ends
pub mod Memory
pub mod Writing
pub mod Buffering
