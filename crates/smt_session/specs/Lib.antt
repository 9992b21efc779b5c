-- What sessions do.
pub mod Sessions
