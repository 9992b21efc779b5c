-- What a text is.
pub mod Bytes
pub mod Lexemes
pub mod Places
pub mod Trees
pub mod Offsets
pub mod Faults
pub mod Answers
pub mod Readings
pub mod Printed
pub mod Lexicon
pub mod Examples
pub mod Shapes
