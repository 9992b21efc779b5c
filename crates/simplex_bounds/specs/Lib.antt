-- What numbers with an infinitesimal part, their ranges, and bounds that are held represent.
pub mod Deltas
pub mod Held
pub mod Limits
pub mod Kept
