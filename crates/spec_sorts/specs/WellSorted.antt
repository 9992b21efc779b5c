-- Terms over declared symbols in which each head takes its arguments. Source: SMT-LIB 2.6, section 5.2.
use Rattle.std.specs.Prelude.{◌≡◌, true, List, [], Contains}
use Rattle.spec_numbers.specs.Fractions.{IsReduced}
use Rattle.spec_sorts.specs.Terms.{Sort, Truth, Symbol, Head, Literal, Apply, Term, Terms, app, nil, cons, sort_of}
use Rattle.spec_sorts.specs.Terms.{is_sorted}

-- each head of a term has a property
unfoldable mutual
  -- in a term
  pub AllHeads : (Head → Type 0) → Term → Type 0
  AllHeads P (app h ts) = P h × AllHeadsIn P ts

  -- in terms
  pub AllHeadsIn : (Head → Type 0) → Terms → Type 0
  AllHeadsIn P nil = Unit {0}
  AllHeadsIn P (cons t ts) = AllHeads P t × AllHeadsIn P ts

-- a head of terms over symbols: what is declared is one of them, and a literal is in lowest terms
abbrev pub IsHeadOver : List Symbol → Head → Type 0
IsHeadOver symbols (Literal q) = IsReduced q
IsHeadOver symbols (Apply f) = Contains symbols f
IsHeadOver symbols h = Unit {0}

-- a well-sorted term over symbols, where parameters have these sorts
pub record IsWellSorted (symbols : List Symbol) (parameters : List Sort) (t : Term) : Type 0 where
  -- each head takes its arguments
  pub sorted : is_sorted parameters t ≡ true
  -- each head is one of terms over the symbols
  pub heads : AllHeads (IsHeadOver symbols) t

-- a formula over symbols
pub record IsFormulaOver (symbols : List Symbol) (t : Term) : Type 0 where
  -- it is well sorted, without parameters
  pub term : IsWellSorted symbols [] t
  -- and has the sort Bool
  pub sort : sort_of t ≡ Truth
