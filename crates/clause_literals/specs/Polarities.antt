-- Terms as they are, and what negations negate.
use Rattle.std.specs.Prelude.{◌≡◌, Bool}
use Rattle.spec_sorts.specs.Terms.{Term, negated}
use Rattle.spec_rules.specs.Schemes.{signed_term}
use Rattle.spec_rules.specs.Rules.{flipped}
use Rattle.term_core.specs.declared.ids.TermId.{TermId}
use Rattle.term_core.specs.Tables.{TableView, IsIn, term_at}

-- The term is that of a number, as it is or negated.
pub record IsSigned (table : TableView) (positive : Bool) (t : Term) (id : TermId) : Type 0 where
  -- the number is one of the table's
  pub there : IsIn table id
  -- its term, so meant, is the term
  pub same : t ≡ signed_term positive (term_at table id)

-- the term is none as it is, or none negated
abbrev pub HasNoSign : Bool → Term → Type 0
HasNoSign positive t = (u : Term) → t ≡ signed_term positive u → ⊥

-- the term, flipped, is none as it is, or none negated, but for a negation
abbrev pub HasNoTurn : Bool → Term → Type 0
HasNoTurn positive t = (u : Term) → flipped t ≡ signed_term positive u → u ≡ negated t
