-- What a closure means as a theory.
pub mod Views
