-- What the bytes that were fed tell of each text that goes on so.
pub mod ItemEnds
pub mod Continuing
pub mod Reading
pub mod Limits
pub mod Pieces
