-- What a table of terms holds.
pub mod NameLists
pub mod Symbols
pub mod Tables
pub mod Uses
pub mod Facts
pub mod TheoryHeads
