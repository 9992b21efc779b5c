-- Learned clauses: each says what unit propagation over the clauses before it does not give. Source: Davis, Logemann
-- and Loveland 1962 for propagation.
use Rattle.std.specs.Prelude.{Bool, ◌&&◌, if◌then◌else◌, List, [], ◌∷◌, ◌++◌, Contains}
use Rattle.std.specs.Bool.{beq}
use Rattle.spec_sorts.specs.Terms.{same_term}
use Rattle.spec_sorts.specs.Literals.{Literal, complement}
use Rattle.spec_proofs.specs.Resolution.{Derives, Conflicts}

-- the literals are one
abbrev pub same_literal : Literal → Literal → Bool
same_literal l m = same_term l.atom m.atom && beq l.positive m.positive

-- the complements of the clause's literals but this one
abbrev pub others : List Literal → Literal → List Literal
others [] l = []
others (m ∷ ms) l = if same_literal m l then others ms l else complement m ∷ others ms l

-- Unit propagation from the complements of the other literals gives neither this one nor a conflict.
pub record IsOpenIn (premises : List (List Literal)) (clause : List Literal) (l : Literal) : Type 0 where
  -- it is one of the clause's
  pub there : Contains clause l
  -- it is not given
  pub not_given : Derives complement premises (others clause l) l → ⊥
  -- nor is a conflict
  pub no_conflict : Conflicts complement premises (others clause l) → ⊥

-- one of the clause's literals was not given
abbrev pub IsNew : List (List Literal) → List Literal → Type 0
IsNew premises clause = (l : Literal) × IsOpenIn premises clause l

-- each clause is new over the premises and the clauses before it
abbrev pub AreNew : List (List Literal) → List (List Literal) → Type 0
AreNew premises [] = Unit {0}
AreNew premises (c ∷ cs) = IsNew premises c × AreNew (premises ++ c ∷ []) cs
