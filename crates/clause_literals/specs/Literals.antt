-- Literals: their complements, sets of them, and those of a clause of the table of terms.
use Rattle.std.specs.Prelude.{◌≡◌, ◌⊎◌, ◌↔◌, ⊤, nat_eq, Bool, not, ◌&&◌, if◌then◌else◌, List, [], ◌∷◌, ◌++◌, Contains}
use Rattle.std.specs.Prelude.{Vec, map, All, MatchBool}
use Rattle.std.specs.declared.alloc.Global.{Global}
use Rattle.std.specs.List.{list_any}
use Rattle.spec_sorts.specs.Literals.{Clause, literals_of}
use Rattle.term_core.specs.declared.ids.Lit.{Lit}
use Rattle.term_core.specs.Tables.{TableView, IsIn, literal_at}

-- the literal with the other sign
abbrev pub lit_complement : Lit → Lit
lit_complement l = record { term = l.term; positive = not l.positive }

-- whether two literals are one
abbrev pub same_lit : Lit → Lit → Bool
same_lit a b = nat_eq a.term.0 b.term.0 && (if a.positive then b.positive else not b.positive)

-- whether a literal is held
abbrev pub has : List Lit → Lit → Bool
has held m = list_any (λ h. same_lit h m) held

-- each vector's list
abbrev pub lists : {T : Type 0} → List (Vec T Global) → List (List T)
lists vs = map (λ v. v.items) vs

-- a literal is there with its complement
abbrev pub HasBoth : List Lit → Type 0
HasBoth ls = (l : Lit) × Contains ls l × Contains ls (lit_complement l)

-- the same literals are in both
abbrev pub SameLits : List Lit → List Lit → Type 0
SameLits xs ys = (l : Lit) → Contains xs l ↔ Contains ys l

-- no literal occurs twice
abbrev pub HasNoTwice : List Lit → Type 0
HasNoTwice [] = ⊤
HasNoTwice (l ∷ ls) = (Contains ls l → ⊥) × HasNoTwice ls

-- the second has the literals of the first, each once
pub record IsSetOf (clause set : List Lit) : Type 0 where
  pub once : HasNoTwice set
  pub same : SameLits set clause

-- the list has the literal, or has it now as its last
abbrev pub AddsLast : List Lit → Lit → List Lit → Type 0
AddsLast old l new = (Contains old l × (new ≡ old)) ⊎ ((Contains old l → ⊥) × (new ≡ old ++ l ∷ []))

-- no literal is held with its complement
abbrev pub IsConsistent : List Lit → Type 0
IsConsistent held = (l : Lit) → Contains held l → Contains held (lit_complement l) → ⊥

-- each literal's term is one of the table's
abbrev pub AreLiteralsIn : TableView → List Lit → Type 0
AreLiteralsIn table ls = All (λ l. IsIn table l.term) ls

-- The literals are those of the clause.
pub record LiteralsMean (table : TableView) (literals : List Lit) (clause : Clause) : Type 0 where
  -- they are the same in their order
  pub same : map (literal_at table) literals ≡ literals_of clause
  -- their terms are of the table
  pub there : AreLiteralsIn table literals

-- a test says yes exactly where the statement is so
abbrev pub Tests : Type 0 → Bool → Type 0
Tests P b = MatchBool b P (P → ⊥)
