-- What a text that comes in pieces has next.
pub mod ItemEnds
pub mod Streams
pub mod Pieces
