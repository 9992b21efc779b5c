-- Lemmas on sums and products by the parts of the code.
pub mod ProductParts
pub mod SumParts
pub mod Bounded
pub mod Signed
pub mod QuotientParts
pub mod Comparisons
pub mod Same
