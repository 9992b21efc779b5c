-- Equalities and reasons, over numbers of the table.
use Rattle.std.specs.Prelude.{◌≡◌, ◌<◌, ◌≤◌, ◌⊎◌, ℕ, List, map, get_or, All, Option, Some, None, MatchOption}
use Rattle.spec_sorts.specs.Terms.{Term}
use Rattle.spec_equality.specs.Reasons.{equal, denied, alone, Joins, HasReason}
use Rattle.term_core.specs.declared.ids.TermId.{TermId}
use Rattle.term_core.specs.Tables.{TableView, IsIn, AreIn, term_at, clause_at}
use Rattle.rule_eq.specs.declared.reasons.Reasons.{Reasons}
use Rattle.rule_eq.specs.declared.reasons.Reasons.TheVariants.{Literals, Premises}

-- the number is that of a term that may be there
abbrev pub GivesTerm : TableView → Option Term → Option TermId → Type 0
GivesTerm table t result = MatchOption result (t ≡ None) (λ id. IsIn table id × (t ≡ Some (term_at table id)))

-- the term is no equality
abbrev pub HasNoSides : Term → Type 0
HasNoSides e = (t u : Term) → e ≡ equal t u → ⊥

-- The term is the equality of the terms of two numbers.
pub record AreSides (table : TableView) (e : Term) (sides : TermId × TermId) : Type 0 where
  -- the numbers are of the table's
  pub one_there : IsIn table sides.0
  pub other_there : IsIn table sides.1
  -- the term is this equality
  pub same : e ≡ equal (term_at table sides.0) (term_at table sides.1)

-- the reasons that the code's are: what literals deny, or what single premises state
abbrev pub reasons_meant : TableView → Reasons → List (Option Term)
reasons_meant table (Literals ids) = map denied (clause_at table ids.now)
reasons_meant table (Premises clauses) = map alone (map (clause_at table) clauses.now)

-- their terms are of the table
abbrev pub AreReasonsIn : TableView → Reasons → Type 0
AreReasonsIn table (Literals ids) = AreIn table ids.now
AreReasonsIn table (Premises clauses) = All (AreIn table) clauses.now

-- a term joins the terms of numbers
abbrev pub JoinsIn : TableView → TermId → TermId → TermId → Type 0
JoinsIn table reason one other = Joins (Some (term_at table reason)) (term_at table one) (term_at table other)

-- the reason at a place joins the terms of two numbers
abbrev pub JoinsAt : TableView → List (Option Term) → TermId × TermId → ℕ → Type 0
JoinsAt table reasons pair k = Joins (get_or reasons k None) (term_at table pair.0) (term_at table pair.1)

-- no reason from the one place on, before the other, joins the terms of two numbers
abbrev pub HasNoneBetween : TableView → List (Option Term) → TermId × TermId → ℕ → ℕ → Type 0
HasNoneBetween table reasons pair from end = (k : ℕ) → from ≤ k → k < end → JoinsAt table reasons pair k → ⊥

-- one of the reasons joins the terms of two numbers
abbrev pub HasReasonIn : TableView → List (Option Term) → TermId × TermId → Type 0
HasReasonIn table reasons pair = HasReason reasons (term_at table pair.0) (term_at table pair.1)

-- the terms of two numbers are one, or a reason joins them
abbrev pub AreOneOrJoined : TableView → List (Option Term) → TermId × TermId → Type 0
AreOneOrJoined table reasons pair = (term_at table pair.0 ≡ term_at table pair.1) ⊎ HasReasonIn table reasons pair
