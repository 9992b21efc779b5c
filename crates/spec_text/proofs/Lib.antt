-- Lemmas on nesting: trees from lexemes, and the faults of trees.
pub mod Nesting
pub mod Blanks
pub mod Tests
pub mod Spelling
pub mod Longest
pub mod Reading
pub mod Stopping
pub mod Parsing
pub mod Offsets
pub mod Words
pub mod Printing
pub mod Members
pub mod General
pub mod AnswerLaws
pub mod ShapeLaws
