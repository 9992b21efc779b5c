-- Edges between terms, what a forest keeps of them, and how a path is explained.
pub mod Forest
pub mod Kept
pub mod Telling
