-- The definitions that contracts cite.
pub mod Arguments
pub mod Output
pub mod Generated
pub mod GoesOn
pub mod RunMeans
pub mod Calls
pub mod InMemory
pub mod CommandLine
pub mod Program
