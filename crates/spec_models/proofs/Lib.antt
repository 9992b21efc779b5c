-- Lemmas of this crate.
pub mod Numerals
pub mod Bodies
pub mod Sorts
pub mod Values
pub mod Parameters
pub mod Tables
pub mod Definitions
pub mod Agreement
pub mod Scripts
