-- How what is printed is marked, numbered and written.
pub mod Marks
pub mod Counting
pub mod Digits
pub mod Printing
pub mod Uses
pub mod Assumes
