-- Lemmas on numbers with an infinitesimal part.
pub mod Results
pub mod Orders
pub mod Values
pub mod SmallValues
