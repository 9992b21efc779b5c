-- What rules of equality and functions take, and what held literals make equal.
pub mod Reasons
pub mod EqualityRules
pub mod Examples
pub mod Congruence
pub mod Truth
pub mod CongruenceExamples
