-- What the walks over a table's terms find.
pub mod Valuations
pub mod Operations
pub mod Filling
pub mod Orders
pub mod KnownValues
pub mod FilledTerms
pub mod Counting
