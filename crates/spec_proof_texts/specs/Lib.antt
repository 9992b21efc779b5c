-- How proofs over the whole language are printed, what they say, and which terms can be read back from them.
pub mod Decimals
pub mod Lines
pub mod Meaning
pub mod Plans
pub mod Printable
pub mod ReadBack
pub mod Examples
pub mod Readable
