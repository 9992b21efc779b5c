-- What a closure means as a theory.
use Rattle.std.specs.Prelude.{length, map}
use Rattle.spec_equality.specs.Congruence.{IsCongruent}
use Rattle.term_core.specs.declared.ids.TermId.{TermId}
use Rattle.term_core.specs.Tables.{TableView, term_at}
use Rattle.proof_log.specs.Theories.{Mark, TheoryView, terms_watched, literals_held}
use Rattle.congruence_closure.specs.Closure.{ClosureState, ClosureView}

-- how many literals and terms there were
abbrev pub mark_of : ClosureState → Mark
mark_of s = record { held = length s.facts.held; watched = length s.facts.listed }

-- the literals that it holds, and the terms that it lists
abbrev pub theory_of : ClosureView → TheoryView
theory_of v = record {
  held = v.now.facts.held;
  watched = map (λ x. x.term) v.now.facts.listed;
  marks = map mark_of v.marks;
}

-- two terms of a table are equal by the literals that a theory holds
abbrev pub AreEqualBy : TableView → TheoryView → TermId → TermId → Type 0
AreEqualBy t v a b = IsCongruent (terms_watched t v) (literals_held t v) (term_at t a) (term_at t b)
