-- Lemmas that come of what is held, and of one literal more.
use Rattle.std.proofs.Common.{◌≡◌, ℕ, map, sym, ap, subst}
use Rattle.std.proofs.lemmas.List.Elements.{All-push}
use Rattle.std.specs.Prelude.{All, Contains}
use Rattle.spec_sorts.specs.Subsets.{IsClosed}
use Rattle.term_core.specs.declared.ids.TermId.{TermId}
use Rattle.term_core.specs.declared.ids.Lit.{Lit}
use Rattle.term_core.specs.Tables.{TableView, clause_at}
use Rattle.proof_log.specs.Logs.{IsLogOf}
use Rattle.proof_log.specs.Theories.{TheoryView, Derived, IsTermIn, IsAtomIn, IsTheoryOver, terms_watched, DerivesLemmas}
use Rattle.proof_log.proofs.Composed.{lemmas_none, watched_lemmas_after}
use Rattle.congruence_relation.specs.Relation.{Application, Facts, AreFactsOf, terms_listed}
use Rattle.congruence_closure.specs.State.{with_held}
use Rattle.congruence_closure.specs.Closure.{ClosureState, ClosureView}
use Rattle.congruence_closure.specs.Listed.{no_application, HasPlace}
use Rattle.congruence.specs.Views.{theory_of}
use Rattle.congruence.proofs.Views.{same_view}
use Rattle.congruence.proofs.Terms.{watched_are_listed, terms_over, more_held, listed_of}

-- lemmas of listed terms are lemmas of watched ones
pub over_watched : (v : ClosureView) (a b : Derived) → DerivesLemmas (terms_listed a.table v.now.facts) a b → DerivesLemmas (terms_watched a.table (theory_of v)) a b
over_watched v a b came = subst (λ ts. DerivesLemmas ts a b) (sym (watched_are_listed a.table v)) came

-- table and log are as they were
pub came_none : (v : ClosureView) (a b : Derived) → IsLogOf a.table a.log → (b.table ≡ a.table) × (b.log ≡ a.log) → DerivesLemmas (terms_watched a.table (theory_of v)) a b
came_none v a b right same =
    let none : DerivesLemmas (terms_watched a.table (theory_of v)) a a = lemmas_none (terms_watched a.table (theory_of v)) a right in
    subst (λ (d : Derived). DerivesLemmas (terms_watched a.table (theory_of v)) a d) (λ i. record { table = sym same.0 i; log = sym same.1 i }) none

-- a listed term is one over the symbols
pub term_at_place : (t : TableView) (v : ClosureView) → IsTheoryOver t (theory_of v) → (id : TermId) (i : ℕ) → HasPlace v.now.facts.listed id i → IsTermIn t id
term_at_place t v over id i (low, is) = subst (IsTermIn t) is (terms_over t v over i no_application low)

-- A literal more of a watched atom is held.
module _ (t : TableView) (v w : ClosureView) (l : Lit) (e : w.now.facts ≡ with_held v.now.facts l) where
  -- it is over the table still
  pub held_over : IsTheoryOver t (theory_of v) → IsAtomIn t l.term → IsTheoryOver t (theory_of w)
  held_over over atom = record {
    terms = subst (λ (f : Facts). All (IsTermIn t) (map (λ (y : Application). y.term) f.listed)) (sym e) over.terms;
    closed = subst (λ (f : Facts). IsClosed (clause_at t (map (λ (y : Application). y.term) f.listed))) (sym e) over.closed;
    atoms = subst (λ (f : Facts). All (λ (m : Lit). IsAtomIn t m.term) f.held) (sym e) (All-push (λ (m : Lit). IsAtomIn t m.term) v.now.facts.held l over.atoms atom);
  }

  -- and of it
  pub held_with : AreFactsOf t v.now.facts → Contains (theory_of v).watched l.term → AreFactsOf t w.now.facts
  held_with with watched =
      let x = listed_of v.now.facts l.term watched in
      subst (AreFactsOf t) (sym e) (more_held t v.now.facts l x.0 with x.1 x.2)

-- lemmas after lemmas, where what it is about is as it was
pub more_lemmas : (v w : ClosureView) → w.now ≡ v.now → w.marks ≡ v.marks → (a b c : Derived) → IsTheoryOver a.table (theory_of v) → DerivesLemmas (terms_watched a.table (theory_of v)) a b → DerivesLemmas (terms_watched b.table (theory_of w)) b c → DerivesLemmas (terms_watched a.table (theory_of v)) a c
more_lemmas v w now marks a b c over first second =
    let view = same_view v w (ap (λ (s : ClosureState). s.facts) now) marks in
    watched_lemmas_after (theory_of v) a b c over first (subst (λ (x : TheoryView). DerivesLemmas (terms_watched b.table x) b c) view second)
