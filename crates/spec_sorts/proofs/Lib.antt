-- Lemmas on terms: what each head is read as, parameters, values within 128 bits, declared symbols, sorts, tests of terms, and subterms.
pub mod Heads
pub mod Bounded
pub mod Signatures
pub mod WellSorted
pub mod SortedHeads
pub mod SortsOfValues
pub mod SameTerms
pub mod Members
pub mod LeastSubterms
pub mod General
