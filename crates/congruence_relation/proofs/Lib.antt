-- The lemmas of this crate: edges that represent the congruence, more facts, the congruence of a table's terms, and tables that grow.
pub mod Exact
pub mod More
pub mod Agree
pub mod Kept
