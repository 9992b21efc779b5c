-- The lemmas of this crate.
pub mod Values
pub mod Sound
pub mod Alone
mod Taking
mod Verdicts
pub mod CongruenceSound
pub mod Apart
