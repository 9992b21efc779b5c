-- What two theories are together.
pub mod Views
