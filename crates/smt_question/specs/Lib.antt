-- What reading a question gives, and what the names of infos mean.
pub mod Questions
pub mod Infos
