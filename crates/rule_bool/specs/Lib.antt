-- What a stop says of a step; what premises are as terms of the table; what terms give, and what texts of arguments
-- write.
pub mod Resolvents
pub mod Premises
pub mod Arguments
pub mod Schemes
