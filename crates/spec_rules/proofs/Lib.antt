-- The lemmas of this crate.
pub mod Resolution
pub mod Schemes
pub mod Rules
pub mod Given
