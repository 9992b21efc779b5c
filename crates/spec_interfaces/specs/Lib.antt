-- Of which equalities a search speaks besides a check's terms.
pub mod Interfaces
