-- What a store holds, what propagation does to a trail, and how clauses are watched and quiet.
pub mod Stores
pub mod Entries
pub mod Propagating
pub mod Watching
pub mod QuietPairs
pub mod Keeping
