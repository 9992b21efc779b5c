-- The lemmas of this crate.
mod Giving
mod Leading
mod Joining
mod Heads
mod ClauseEnds
mod Bare
pub mod OnePremise
mod TwoLiterals
