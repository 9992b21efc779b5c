-- What a check of a closure shows, over a table.
use Rattle.std.proofs.Common.{◌≡◌, ◌<◌, ◌↔◌, true, List, map, sym, subst, arith}
use Rattle.std.specs.Prelude.{All}
use Rattle.spec_equality.specs.Congruence.{IsRefuted as AreRefuted}
use Rattle.spec_sorts.specs.Terms.{Term}
use Rattle.spec_sorts.specs.Subsets.{IsClosed}
use Rattle.term_core.specs.Tables.{TableView, literal_at}
use Rattle.proof_log.specs.Theories.{IsTheoryOver, terms_watched, literals_held}
use Rattle.explain_forest.specs.Forest.{ForestState}
use Rattle.explain_forest.specs.declared.types.Edge.{Edge}
use Rattle.congruence_relation.specs.declared.Conflict.{Conflict}
use Rattle.congruence_relation.specs.declared.Truths.{Truths}
use Rattle.congruence_relation.specs.Relation.{FactsAreRefuted, AreFactsOf, terms_listed}
use Rattle.congruence_relation.specs.Edges.{EdgesHaveReasons, IsConflict}
use Rattle.congruence_closure.specs.Closure.{ClosureView, IsRight, AreTerms}
use Rattle.congruence_explain.specs.Basis.{IsBasis}
use Rattle.congruence.specs.Views.{theory_of}
use Rattle.congruence.proofs.Terms.{watched_are_listed, terms_over}
use Rattle.congruence.proofs.Conflicts.{conflict_refutes, none_refutes}

-- A closure before a check, and after it was saturated: what it is about is the same.
module _ (t : TableView) (v w : ClosureView) (facts : w.now.facts ≡ v.now.facts) (right : IsRight w) where
  -- by numbers and over the table alike
  abbrev Agrees : Type 0
  Agrees = FactsAreRefuted v.now.facts ↔ AreRefuted (terms_listed t v.now.facts) (map (literal_at t) v.now.facts.held)

  -- the same over the watched terms
  abbrev Refuted : Type 0
  Refuted = AreRefuted (terms_watched t (theory_of v)) (literals_held t (theory_of v))

  -- where it is saturated nothing is refuted
  pub saturated_is_fine : Agrees → w.now.saturated ≡ true → Refuted → ⊥
  saturated_is_fine agrees saturated refuted =
      none_refutes w.now.facts w.edges (right.closed saturated) (right.fine saturated)
      (subst FactsAreRefuted (sym facts) (agrees.1 (subst (λ (ts : List Term). AreRefuted ts (map (literal_at t) v.now.facts.held)) (watched_are_listed t v) refuted)))

  -- a conflict refutes what is held
  pub conflict_is_refuted : Agrees → (c : Conflict) → IsConflict w.now.facts w.edges c → Refuted
  conflict_is_refuted agrees c conflict =
      subst (λ (ts : List Term). AreRefuted ts (map (literal_at t) v.now.facts.held)) (sym (watched_are_listed t v)) (agrees.0 (subst FactsAreRefuted facts (conflict_refutes w.now.facts w.edges right.reasons c conflict)))

-- an explanation can depend on the edges of a closure
pub basis : (t : TableView) (w : ClosureView) → IsRight w → (ts : Truths) (forest : ForestState) → IsTheoryOver t (theory_of w) → AreFactsOf t w.now.facts → ts ≡ w.now.facts.truths → forest.edges ≡ w.edges → AreTerms w forest.terms → IsBasis t ts forest w.now.facts
basis t w right ts forest over of_table truths edges terms = record {
  truths = sym truths;
  facts = of_table;
  terms = terms_over t w over;
  closed = subst IsClosed (watched_are_listed t w) over.closed;
  atoms = over.atoms;
  reasons = subst (λ (es : List Edge). EdgesHaveReasons w.now.facts es) (sym edges) right.reasons;
  arguments = λ k d low j e inside. omega (arith, right.order.below k d low j e inside, terms.terms k d low);
  ends = subst (All (λ (e : Edge). (e.a.0 < forest.terms) × (e.b.0 < forest.terms))) (sym edges) terms.ends;
}
