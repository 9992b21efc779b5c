-- The definitions that contracts cite: what an answer shows, and what the parts of the search keep.
pub mod Answered
pub mod Waiting
pub mod Search
pub mod Appending
pub mod Stops
pub mod Rounds
pub mod Asking
pub mod Implying
pub mod Growing
pub mod Paying
pub mod Loops
