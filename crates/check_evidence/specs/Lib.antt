-- What a check finds, and what shows it.
pub mod Evidence
