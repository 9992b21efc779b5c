-- Lists of numbers by the codes of literals.
pub mod Indexes
