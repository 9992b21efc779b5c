-- Terms of the table by their heads, and the numbers of their arguments.
use Rattle.std.specs.Prelude.{◌≡◌, Bool, [], ◌∷◌, MatchBool}
use Rattle.spec_sorts.specs.Terms.{Head, Term, of, pair, negated}
use Rattle.term_core.specs.declared.ids.TermId.{TermId}
use Rattle.term_core.specs.Tables.{TableView, IsIn, term_at}

-- a test says yes exactly where the statement is so
abbrev pub Tests : Type 0 → Bool → Type 0
Tests P b = MatchBool b P (P → ⊥)

-- the term is no such head before two terms
abbrev pub IsNoPair : Head → Term → Type 0
IsNoPair h e = (s t : Term) → e ≡ pair h s t → ⊥

-- The term is a head before the terms of two numbers.
pub record IsBinaryTerm (table : TableView) (h : Head) (e : Term) (p : TermId × TermId) : Type 0 where
  -- the numbers are of the table's
  pub left_there : IsIn table p.0
  pub right_there : IsIn table p.1
  -- the term is so
  pub same : e ≡ pair h (term_at table p.0) (term_at table p.1)

-- the term is no such head before three terms
abbrev pub IsNoTriple : Head → Term → Type 0
IsNoTriple h e = (s t u : Term) → e ≡ of h (s ∷ t ∷ u ∷ []) → ⊥

-- The term is a head before the terms of three numbers.
pub record IsTriple (table : TableView) (h : Head) (e : Term) (p : TermId × TermId × TermId) : Type 0 where
  -- the numbers are of the table's
  pub first_there : IsIn table p.0
  pub second_there : IsIn table p.1
  pub third_there : IsIn table p.2
  -- the term is so
  pub same : e ≡ of h (term_at table p.0 ∷ term_at table p.1 ∷ term_at table p.2 ∷ [])

-- the term negates none
abbrev pub IsNoNegation : Term → Type 0
IsNoNegation e = (s : Term) → e ≡ negated s → ⊥

-- The term negates the term of a number.
pub record IsNegation (table : TableView) (e : Term) (id : TermId) : Type 0 where
  -- the number is one of the table's
  pub there : IsIn table id
  -- the term is so
  pub same : e ≡ negated (term_at table id)
