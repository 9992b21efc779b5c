-- Lemmas on forms: fractions and their signs, values of forms, terms of sort Real, weighted sums, coefficients, and orders.
pub mod General
pub mod Zero
pub mod Differences
pub mod FormValues
pub mod Reals
pub mod FormTerms
pub mod FormNumbers
pub mod Linear
pub mod Coefficients
pub mod Denials
pub mod Sums
pub mod Orders
pub mod Sound
