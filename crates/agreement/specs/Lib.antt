-- When theories agree on shared terms.
pub mod Agreeing
