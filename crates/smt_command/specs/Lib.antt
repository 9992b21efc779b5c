-- What reading a command gives, and what the names of settings mean.
pub mod Commands
pub mod Settings
