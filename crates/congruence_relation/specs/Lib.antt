-- The congruence of held literals by numbers, and edges that represent it.
pub mod Relation
pub mod Edges
