-- The lemmas of this crate.
pub mod Transport
pub mod Resolvents
pub mod OnePremise
pub mod Behind
pub mod Arities
pub mod Given
pub mod CoefficientsRead
