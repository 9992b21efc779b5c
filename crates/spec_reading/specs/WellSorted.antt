-- Signatures whose definitions stand for well-sorted terms. Source: SMT-LIB 2.6, sections 4.2.3 and 5.2.
use Rattle.std.specs.Prelude.{◌≡◌, List, All, Contains}
use Rattle.spec_sorts.specs.Terms.{Symbol, sort_of}
use Rattle.spec_sorts.specs.WellSorted.{IsWellSorted}
use Rattle.spec_sorts.specs.Signatures.{Definition, declared, defined, Declaration, of_sort, of_function, Signature}
use Rattle.spec_sorts.specs.Signatures.{symbols_in}
use Rattle.spec_reading.specs.Reading.{sorts_taken}

-- a definition over symbols
pub record IsDefinedOver (symbols : List Symbol) (d : Definition) : Type 0 where
  -- its term is well sorted where the parameters have their sorts
  pub term : IsWellSorted symbols (sorts_taken d) d.term
  -- and has the sort of the body
  pub result : sort_of d.term ≡ d.result

-- a declaration over symbols: a declared symbol is one of them
abbrev pub IsDeclaredOver : List Symbol → Declaration → Type 0
IsDeclaredOver symbols (of_sort n s) = Unit {0}
IsDeclaredOver symbols (of_function (declared f)) = Contains symbols f
IsDeclaredOver symbols (of_function (defined d)) = IsDefinedOver symbols d

-- each declaration is one over the declared symbols
abbrev pub AreWellSorted : Signature → Type 0
AreWellSorted s = All (IsDeclaredOver (symbols_in s)) s
