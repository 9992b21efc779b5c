-- Clauses that end in two terms, by numbers.
use Rattle.std.proofs.Common.{◌≡◌, List, [], ◌∷◌, ◌++◌, Some, None, sym, ap, ◌∙◌, subst}
use Rattle.std.proofs.lemmas.List.{append_assoc, map-append, same_from_push}
use Rattle.std.proofs.lemmas.List.Elements.{All-pop}
use Rattle.spec_sorts.specs.Terms.{Term, negated}
use Rattle.spec_sorts.specs.Literals.{Clause}
use Rattle.spec_equality.specs.Reasons.{equal, denied}
use Rattle.spec_equality.specs.EqualityRules.{EndsEqual, EndsDenied}
use Rattle.spec_equality.proofs.Sound.{denied_is}
use Rattle.term_core.specs.declared.ids.TermId.{TermId}
use Rattle.term_core.specs.Tables.{TableView, IsIn, AreIn, term_at, clause_at}
use Rattle.rule_eq.specs.Reasoning.{HasNoSides, AreSides}

module _ (t : TableView) (clause front : List TermId) (last : TermId) (is : clause ≡ front ++ last ∷ []) where
  -- the terms of a clause and its last number
  pub ended : clause_at t clause ≡ clause_at t front ++ term_at t last ∷ []
  ended = ap (clause_at t) is ∙ map-append (term_at t) front (last ∷ [])

  -- the numbers before it are the table's
  pub front_in : AreIn t clause → AreIn t front
  front_in h = (All-pop (IsIn t) clause front (Some last) is h).0

  -- and so is that number
  pub last_in : AreIn t clause → IsIn t last
  last_in h = (All-pop (IsIn t) clause front (Some last) is h).1

  -- a clause that ends in an equality
  pub ends_equal : (pair : TermId × TermId) → AreSides t (term_at t last) pair → clause_at t clause ≡ clause_at t front ++ equal (term_at t pair.0) (term_at t pair.1) ∷ []
  ends_equal pair sides = ended ∙ ap (λ (x : Term). clause_at t front ++ x ∷ []) sides.same

  -- one that ends in none
  pub ends_in_none : HasNoSides (term_at t last) → EndsEqual (clause_at t clause) → ⊥
  ends_in_none none e = none e.one e.other (same_from_push (clause_at t front) e.literals (term_at t last) (equal e.one e.other) (sym ended ∙ e.same)).1

  module _ (literals : List TermId) (literal : TermId) (is_front : front ≡ literals ++ literal ∷ []) where
    both_ended : clause_at t clause ≡ (clause_at t literals ++ term_at t literal ∷ []) ++ term_at t last ∷ []
    both_ended = ended ∙ ap (λ (xs : Clause). xs ++ term_at t last ∷ []) (ap (clause_at t) is_front ∙ map-append (term_at t) literals (literal ∷ []))

    -- a clause that ends in a negated term and another
    pub ends_denied : (one : TermId) → denied (term_at t literal) ≡ Some (term_at t one) → clause_at t clause ≡ clause_at t literals ++ negated (term_at t one) ∷ term_at t last ∷ []
    ends_denied one denies = both_ended ∙ append_assoc (clause_at t literals) (term_at t literal ∷ []) (term_at t last ∷ [])
        ∙ ap (λ (x : Term). clause_at t literals ++ x ∷ term_at t last ∷ []) (denied_is (term_at t literal) (term_at t one) denies)

    -- one whose last but one is no negation
    pub denies_none : denied (term_at t literal) ≡ None → EndsDenied (clause_at t clause) → ⊥
    denies_none none e =
        let whole : (clause_at t literals ++ term_at t literal ∷ []) ++ term_at t last ∷ [] ≡ (e.literals ++ negated e.one ∷ []) ++ e.other ∷ [] = sym both_ended ∙ e.same ∙ sym (append_assoc e.literals (negated e.one ∷ []) (e.other ∷ [])) in
        let fronts = (same_from_push (clause_at t literals ++ term_at t literal ∷ []) (e.literals ++ negated e.one ∷ []) (term_at t last) e.other whole).0 in
        let one = (same_from_push (clause_at t literals) e.literals (term_at t literal) (negated e.one) fronts).1 in
        let n : None ≡ Some e.one = sym none ∙ ap denied one in
        cc

module _ (P : List Term → Term → Term → Type 0) (c : Clause) (literals : List Term) (one other : Term) where
  -- there is one way to end in an equality
  pub equal_once : c ≡ literals ++ equal one other ∷ [] → (e : EndsEqual c) × P e.literals e.one e.other → P literals one other
  equal_once is (e, p) =
      let both = same_from_push literals e.literals (equal one other) (equal e.one e.other) (sym is ∙ e.same) in
      let last = both.1 in
      let first : e.one ≡ one = cc in
      let second : e.other ≡ other = cc in
      subst (λ (x : Term). P literals one x) second (subst (λ (x : Term). P literals x e.other) first (subst (λ (xs : List Term). P xs e.one e.other) (sym both.0) p))

  pub equal_so : c ≡ literals ++ equal one other ∷ [] → P literals one other → (e : EndsEqual c) × P e.literals e.one e.other
  equal_so is p = (record { literals = literals; one = one; other = other; same = is }, p)

  -- and one to end in a negated term and another
  pub denied_once : c ≡ literals ++ negated one ∷ other ∷ [] → (e : EndsDenied c) × P e.literals e.one e.other → P literals one other
  denied_once is (e, p) =
      let whole : (literals ++ negated one ∷ []) ++ other ∷ [] ≡ (e.literals ++ negated e.one ∷ []) ++ e.other ∷ [] = append_assoc literals (negated one ∷ []) (other ∷ []) ∙ sym is ∙ e.same ∙ sym (append_assoc e.literals (negated e.one ∷ []) (e.other ∷ [])) in
      let outer = same_from_push (literals ++ negated one ∷ []) (e.literals ++ negated e.one ∷ []) other e.other whole in
      let inner = same_from_push literals e.literals (negated one) (negated e.one) outer.0 in
      let last = inner.1 in
      let first : e.one ≡ one = cc in
      subst (λ (x : Term). P literals one x) (sym outer.1) (subst (λ (x : Term). P literals x e.other) first (subst (λ (xs : List Term). P xs e.one e.other) (sym inner.0) p))

  pub denied_so : c ≡ literals ++ negated one ∷ other ∷ [] → P literals one other → (e : EndsDenied c) × P e.literals e.one e.other
  denied_so is p = (record { literals = literals; one = one; other = other; same = is }, p)
