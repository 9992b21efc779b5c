-- The premises of rules that take one.
use Rattle.std.specs.Prelude.{◌≡◌, List, [], ◌∷◌, map}
use Rattle.spec_sorts.specs.Terms.{Or, of}
use Rattle.spec_sorts.specs.Literals.{Clause}
use Rattle.spec_rules.specs.Rules.{IsOr}
use Rattle.term_core.specs.declared.ids.TermId.{TermId}
use Rattle.term_core.specs.Tables.{TableView, AreIn, clause_at}

-- There is one premise, whose one literal is a disjunction of these terms.
pub record IsDisjunctionAlone (table : TableView) (premises : List (List TermId)) (arguments : List TermId) : Type
    0 where
  -- the premises say so
  pub same : map (clause_at table) premises ≡ (of Or (clause_at table arguments) ∷ []) ∷ []
  -- the terms are the table's
  pub there : AreIn table arguments

-- the rule `or` takes no such premises, whatever the clause
abbrev pub HasNoDisjunctionAlone : TableView → List (List TermId) → Type 0
HasNoDisjunctionAlone table premises = (clause : Clause) → IsOr (map (clause_at table) premises) clause → ⊥
