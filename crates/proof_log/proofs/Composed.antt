-- Lemmas that a theory derives, a batch after a batch.
use Rattle.std.proofs.Common.{◌≡◌, ℕ, ◌≤◌, ◌<◌, List, [], ◌++◌, length, map, All, refl, sym, ap, ◌∙◌, subst, arith, length-append, append_assoc}
use Rattle.std.proofs.lemmas.List.{append-nil, map-append}
use Rattle.std.proofs.lemmas.List.Elements.{All-nil, All-append, All-weaker, Contains-append_left}
use Rattle.std.specs.Prelude.{Contains}
use Rattle.spec_sorts.specs.Terms.{Symbol, Term}
use Rattle.spec_sorts.specs.Literals.{literal_of}
use Rattle.spec_sorts.specs.WellSorted.{IsWellSorted, IsFormulaOver}
use Rattle.spec_sorts.specs.Subsets.{IsClosed}
use Rattle.spec_sorts.proofs.WellSorted.{sorted_over}
use Rattle.spec_derivations.specs.Derivations.{Inference, «assumption», by_rule, Derivation}
use Rattle.spec_derivations.specs.Lemmas.{IsLemma}
use Rattle.spec_derivations.proofs.Onward.{lemma_onward}
use Rattle.term_core.specs.declared.ids.TermId.{TermId}
use Rattle.term_core.specs.declared.ids.Lit.{Lit}
use Rattle.term_core.specs.Tables.{TableView, term_at, positive_literal, Extends}
use Rattle.term_core.proofs.TermsExtend.{Extends-self, Extends-trans, IsIn-kept, term_at-kept, clause_at-kept}
use Rattle.proof_log.specs.declared.premises.StepId.{StepId}
use Rattle.proof_log.specs.Logs.{Logged, AreStepsOf, inference_of, derivation_in, IsLogOf}
use Rattle.proof_log.specs.Theories.{TheoryView, IsTermIn, IsAtomIn, IsTheoryOver, Derived, DerivesLemmas, terms_watched}
use Rattle.proof_log.proofs.Tables.{grown_lemmas}

-- no lemma came
pub lemmas_none : (ts : List Term) (d : Derived) → IsLogOf d.table d.log → DerivesLemmas ts d d
lemmas_none ts d right = record {
  table = Extends-self d.table;
  declared = refl;
  more = [];
  log = sym (append-nil d.log);
  right = right;
  lemmas = All-nil (λ l. IsLemma ts (derivation_in d.table d.log) (length d.log) (inference_of d.table l));
}

-- a batch that begins later is of one that begins earlier
lemma_earlier : (ts : List Term) (d : Derivation) (m n : ℕ) → m ≤ n → (x : Inference) → IsLemma ts d n x → IsLemma ts d m x
lemma_earlier ts d m n le («assumption» t) h = h
lemma_earlier ts d m n le (by_rule r ps arguments c) h = (
  All-weaker (λ (p : ℕ). (n ≤ p) × (p < length d)) (λ (p : ℕ). (m ≤ p) × (p < length d)) (λ p at. (omega (arith, le, at.0), at.1)) ps h.0,
  h.1,
  h.2,
)

-- lemmas after lemmas, over the same terms
module _ (ts : List Term) (a b c : Derived) (first : DerivesLemmas ts a b) (second : DerivesLemmas ts b c) where
  abbrev front : List Logged
  front = a.log ++ first.more

  is : derivation_in c.table c.log ≡ derivation_in c.table front ++ map (inference_of c.table) second.more
  is = ap (derivation_in c.table) (second.log ∙ ap (λ (log : List Logged). log ++ second.more) first.log) ∙ map-append (inference_of c.table) front second.more

  -- those of the first batch
  first_on : All (λ l. IsLemma ts (derivation_in c.table c.log) (length a.log) (inference_of c.table l)) first.more
  first_on =
      let Lemma : TableView → Derivation → Logged → Type 0 = λ (t : TableView) (d : Derivation) (l : Logged). IsLemma ts d (length a.log) (inference_of t l) in
      let here = grown_lemmas b.table c.table ts (length a.log) a.log first.more (subst (IsLogOf b.table) first.log first.right) second.table
      (subst (λ (log : List Logged). All (Lemma b.table (derivation_in b.table log)) first.more) first.log first.lemmas) in
      subst (λ (d : Derivation). All (Lemma c.table d) first.more) (sym is)
      (All-weaker (Lemma c.table (derivation_in c.table front)) (Lemma c.table (derivation_in c.table front ++ map (inference_of c.table) second.more))
      (λ l. lemma_onward (derivation_in c.table front) (map (inference_of c.table) second.more) ts (length a.log) (inference_of c.table l)) first.more here)

  -- and of the second
  second_on : All (λ l. IsLemma ts (derivation_in c.table c.log) (length a.log) (inference_of c.table l)) second.more
  second_on = All-weaker (λ l. IsLemma ts (derivation_in c.table c.log) (length b.log) (inference_of c.table l)) (λ l. IsLemma ts (derivation_in c.table c.log) (length a.log) (inference_of c.table l))
      (λ l. lemma_earlier ts (derivation_in c.table c.log) (length a.log) (length b.log) (omega (arith, ap length first.log, length-append a.log first.more)) (inference_of c.table l)) second.more second.lemmas

  pub lemmas_after : DerivesLemmas ts a c
  lemmas_after = record {
    table = Extends-trans a.table b.table c.table first.table second.table;
    declared = second.declared ∙ first.declared;
    more = first.more ++ second.more;
    log = second.log ∙ ap (λ (log : List Logged). log ++ second.more) first.log ∙ append_assoc a.log first.more second.more;
    right = second.right;
    lemmas = All-append (λ l. IsLemma ts (derivation_in c.table c.log) (length a.log) (inference_of c.table l)) first.more second.more first_on second_on;
  }

-- numbers of steps stay numbers of steps
pub steps_after : (ts : List Term) (a b : Derived) → DerivesLemmas ts a b → (steps : List StepId) → AreStepsOf a.log steps → AreStepsOf b.log steps
steps_after ts a b came = All-weaker (λ (s : StepId). s.0 < length a.log) (λ (s : StepId). s.0 < length b.log)
    (λ s at. omega (arith, at, ap length came.log, length-append a.log came.more))

-- over a table that grew, a theory watches the same terms, and is one over it
module _ (t u : TableView) (more : Extends t u) (v : TheoryView) (over : IsTheoryOver t v) where
  pub watched_after : terms_watched u v ≡ terms_watched t v
  watched_after = clause_at-kept t u more v.watched (λ k d lt. (over.terms k d lt).0)

  among : (f : Symbol) → Contains t.symbols f → Contains u.symbols f
  among f there = subst (λ (fs : List Symbol). Contains fs f) (sym more.symbols) (Contains-append_left t.symbols more.more_symbols f there)

  term_after : (id : TermId) → IsTermIn t id → IsTermIn u id
  term_after id h = (
    IsIn-kept t u more id h.0,
    subst (IsWellSorted u.symbols []) (sym (term_at-kept t u more id h.0)) (sorted_over t.symbols u.symbols among [] (term_at t id) h.1),
  )

  atom_after : (id : TermId) → IsAtomIn t id → IsAtomIn u id
  atom_after id h =
      let same = term_at-kept t u more id h.0.0 in (
        (
          IsIn-kept t u more id h.0.0,
          subst (IsFormulaOver u.symbols) (sym same) (record {
            term = sorted_over t.symbols u.symbols among [] (term_at t id) h.0.1.term;
            sort = h.0.1.sort;
          }),
        ),
        subst (λ (x : Term). literal_of x ≡ positive_literal x) (sym same) h.1,
      )

  pub over_after : IsTheoryOver u v
  over_after = record {
    terms = All-weaker (IsTermIn t) (IsTermIn u) term_after v.watched over.terms;
    closed = subst IsClosed (sym watched_after) over.closed;
    atoms = All-weaker (λ (l : Lit). IsAtomIn t l.term) (λ (l : Lit). IsAtomIn u l.term) (λ l. atom_after l.term) v.held over.atoms;
  }

-- lemmas after lemmas, where each batch speaks of what is watched over its table
pub watched_lemmas_after : (v : TheoryView) (a b c : Derived) → IsTheoryOver a.table v → DerivesLemmas (terms_watched a.table v) a b
    → DerivesLemmas (terms_watched b.table v) b c → DerivesLemmas (terms_watched a.table v) a c
watched_lemmas_after v a b c over first second = lemmas_after (terms_watched a.table v) a b c first
    (subst (λ (ts : List Term). DerivesLemmas ts b c) (watched_after a.table b.table first.table v over) second)
