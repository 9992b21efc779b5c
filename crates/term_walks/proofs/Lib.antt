-- The lemmas of this crate.
pub mod Fixed
pub mod Folding
pub mod Fitting
pub mod Boolean
pub mod Among
pub mod Places
pub mod Found
pub mod Named
pub mod Taking
pub mod Filled
pub mod NumbersAdded
pub mod TermsCounted
