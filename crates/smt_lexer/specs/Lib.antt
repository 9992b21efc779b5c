-- Tokens as the code has them, with the lexemes that they stand for.
pub mod Classes
pub mod Pieces
pub mod Tokens
