-- What answers questions, and values of terms.
pub mod Replies
pub mod Pairs
pub mod Cores
