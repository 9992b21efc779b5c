-- The interpretation that a search answers with, and how it is made.
pub mod Models
pub mod Made
