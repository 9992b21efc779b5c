-- Lemmas on bounds that are held, and on operations that are exact.
pub mod Exact
pub mod Orders
pub mod Strongest
pub mod Crossings
pub mod Changes
pub mod Keeping
pub mod Fewer
