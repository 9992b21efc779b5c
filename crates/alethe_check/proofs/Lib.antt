-- The lemmas of this crate.
pub mod Numbers
pub mod Within
pub mod FewPremises
pub mod OneLiterals
pub mod Commands
pub mod Judged
pub mod Empties
pub mod Answering
