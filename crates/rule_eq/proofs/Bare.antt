-- Steps without premises.
use Rattle.std.proofs.Common.{◌≡◌, ◌≢◌, Bool, true, false, List, [], map, length, sym, ap, ◌∙◌, subst}
use Rattle.std.specs.Prelude.{MatchBool}
use Rattle.std.proofs.lemmas.List.{nil_from_length, length-map}
use Rattle.spec_sorts.specs.Terms.{Truth, Term, sort_of}
use Rattle.spec_sorts.specs.Literals.{Clause}
use Rattle.spec_equality.specs.Reasons.{denied, Lead, HaveJoinedArguments}
use Rattle.spec_equality.specs.EqualityRules.{IsTransitive, IsCongruenceRule}
use Rattle.term_core.specs.declared.ids.TermId.{TermId}
use Rattle.term_core.specs.Tables.{TableView, term_at, clause_at}
use Rattle.rule_eq.specs.declared.endings.Ending.{Ending}
use Rattle.rule_eq.specs.Judging.{IsEqualEnding, IsDeniedEnding, IsLike, EndsInFormulas, EndsInDenied}
use Rattle.rule_eq.proofs.ClauseEnds.{equal_once, equal_so, denied_once, denied_so}

module _ (t : TableView) (premises : List (List TermId)) (none : length premises ≡ 0) where
  -- what is so without premises is so with these
  pub bare : (R : List Clause → Type 0) → R [] → R (map (clause_at t) premises)
  bare R h = subst (λ (ps : List (List TermId)). R (map (clause_at t) ps)) (sym (nil_from_length premises none)) h

  -- and the other way round
  pub barely : (R : List Clause → Type 0) → R (map (clause_at t) premises) → R []
  barely R h = subst (λ (ps : List (List TermId)). R (map (clause_at t) ps)) (nil_from_length premises none) h

module _ (t : TableView) (c : Clause) (e : Ending) where
  module _ (ends : IsEqualEnding t c e) where
    -- reasons that lead from the one side to the other, or do not
    pub led : length e.literals.now ≢ 0 → (b : Bool) → MatchBool b (Lead (map denied (clause_at t e.literals.now)) (term_at t e.one) (term_at t e.other)) (Lead (map denied (clause_at t e.literals.now)) (term_at t e.one) (term_at t e.other) → ⊥)
        → MatchBool b (IsTransitive [] c) (IsTransitive [] c → ⊥)
    led some true h = (
      record { literals = clause_at t e.literals.now; one = term_at t e.one; other = term_at t e.other; same = ends.same },
      (λ is. some (sym (length-map e.literals.now (term_at t)) ∙ ap (λ (xs : List Term). length xs) is)),
      h,
    )
    led some false not_so = λ w. not_so (equal_once (λ ls u v. Lead (map denied ls) u v) c (clause_at t e.literals.now) (term_at t e.one) (term_at t e.other) ends.same (w.0, w.2))

    -- no reasons
    pub not_led : length e.literals.now ≡ 0 → IsTransitive [] c → ⊥
    not_led empty w = equal_once (λ ls u v. ls ≢ []) c (clause_at t e.literals.now) (term_at t e.one) (term_at t e.other) ends.same (w.0, w.1) (ap (clause_at t) (nil_from_length e.literals.now empty))

    -- literals that make the sides congruent, or do not
    pub congruent : (b : Bool) → MatchBool b (IsLike t e) (IsLike t e → ⊥) → MatchBool b (IsCongruenceRule [] c) (IsCongruenceRule [] c → ⊥)
    congruent true h = equal_so (λ ls u v. HaveJoinedArguments (map denied ls) u v) c (clause_at t e.literals.now) (term_at t e.one) (term_at t e.other) ends.same h
    congruent false not_so = λ w. not_so (equal_once (λ ls u v. HaveJoinedArguments (map denied ls) u v) c (clause_at t e.literals.now) (term_at t e.one) (term_at t e.other) ends.same w)

    -- the same of formulas
    pub formulas : sort_of (term_at t e.one) ≡ Truth → (b : Bool) → MatchBool b (IsLike t e) (IsLike t e → ⊥) → MatchBool b (EndsInFormulas c) (EndsInFormulas c → ⊥)
    formulas sort true h = (record { literals = clause_at t e.literals.now; one = term_at t e.one; other = term_at t e.other; same = ends.same }, sort, h)
    formulas sort false not_so = λ w. not_so (equal_once (λ ls u v. HaveJoinedArguments (map denied ls) u v) c (clause_at t e.literals.now) (term_at t e.one) (term_at t e.other) ends.same (w.0, w.2))

    pub not_formulas : sort_of (term_at t e.one) ≢ Truth → EndsInFormulas c → ⊥
    not_formulas other w = other (equal_once (λ ls u v. sort_of u ≡ Truth) c (clause_at t e.literals.now) (term_at t e.one) (term_at t e.other) ends.same (w.0, w.1))

  -- literals that make a term and one that is negated congruent, or do not
  pub denies : IsDeniedEnding t c e → (b : Bool) → MatchBool b (IsLike t e) (IsLike t e → ⊥) → MatchBool b (EndsInDenied c) (EndsInDenied c → ⊥)
  denies ends true h = denied_so (λ ls u v. HaveJoinedArguments (map denied ls) u v) c (clause_at t e.literals.now) (term_at t e.one) (term_at t e.other) ends.same h
  denies ends false not_so = λ w. not_so (denied_once (λ ls u v. HaveJoinedArguments (map denied ls) u v) c (clause_at t e.literals.now) (term_at t e.one) (term_at t e.other) ends.same w)
