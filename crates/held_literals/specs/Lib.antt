-- Literals of watched terms, with marks.
pub mod Room
