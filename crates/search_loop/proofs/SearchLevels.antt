-- What is before the decision of a level, and what does not.
use Rattle.std.proofs.Common.{◌≡◌, ◌≢◌, ℕ, ◌-◌, ◌<◌, ◌≤◌, List, length, get_or, take, Contains, inl, inr, sym, ap, ◌∙◌, subst, arith}
use Rattle.std.specs.Prelude.{Option, None}
use Rattle.std.proofs.lemmas.Bool.{cases_lt}
use Rattle.std.proofs.lemmas.List.{get_or_default, take-take, get_or-take, length-take-le}
use Rattle.term_core.specs.declared.ids.TermId.{TermId}
use Rattle.term_core.specs.declared.ids.Lit.{Lit}
use Rattle.clause_literals.specs.Literals.{lit_complement, IsConsistent}
use Rattle.clause_literals.specs.Statuses.{PropagatesNothing}
use Rattle.sat_trail.specs.Trails.{TrailView, no_lit, VariablesAreApart, IsLeveled, IsCutTo}
use Rattle.clause_store.specs.Propagating.{IsPropagated}
use Rattle.conflict_learn.specs.Conflicts.{IsFalseAt}
use Rattle.conflict_learn.specs.Learned.{HasOneAt}
use Rattle.conflict_learn.proofs.Places.{early_place, same_place, one_level}
use Rattle.search_loop.specs.Search.{AreDecided}
use Rattle.search_loop.proofs.SearchLists.{in_front}

module _ (v : TrailView) (once : VariablesAreApart v.literals) (leveled : IsLeveled v) where
  -- the decision of a level above 0
  pub decision_of : (n : ℕ) → 0 < n → n ≤ v.level → (p : ℕ) × (p < length v.literals) × (get_or v.reasons p None ≡ None) × (get_or v.levels p 0 ≡ n)
  decision_of n above le =
      let d = leveled.begun (n - 1) (omega (arith, above, le)) in
      (d.0, d.1, d.2, omega (arith, d.3, above))

  -- at level 0 nothing is decided
  pub undecided : v.level ≡ 0 → (p : ℕ) → p < length v.literals → get_or v.reasons p None ≡ None → ⊥
  undecided level p lt none = omega (arith, leveled.topped p lt, leveled.decided p lt none, level)

  -- the level to go back to is below the trail's
  pub level_below : (clause : List Lit) (n level : ℕ) → HasOneAt v clause n level → 0 < n → level < v.level
  level_below clause n level h above =
      let top = leveled.topped h.of_level.place h.of_level.within in
      elim h.reached [
        | inl zero ↦ omega (arith, zero, above, top, h.of_level.level)
        | inr m ↦
            let b = h.below m.0 m.1 m.2 in
            let same = one_level v once m.0 b.0 level b.1 m.3 in
            omega (arith, same, b.3, top, h.of_level.level)
      ]

  -- before a decision
  module _ (p : ℕ) (within : p < length v.literals) (none : get_or v.reasons p None ≡ None) where
    -- all that is of a lower level is kept
    lower_before : (q : ℕ) → q < length v.literals → get_or v.levels q 0 < get_or v.levels p 0 → q < p
    lower_before q ql lt = elim (cases_lt q p) [
      | inl before ↦ before
      | inr ge ↦ elim (cases_lt p q) [
        | inl after ↦ let up = leveled.rising p q after ql in absurd (omega (arith, up, lt))
        | inr le ↦ let same : p ≡ q = omega (arith, ge, le) in absurd (omega (arith, lt, ap (λ (k : ℕ). get_or v.levels k 0) same))
      ]
    ]

    -- nothing of its level does
    same_after : (q : ℕ) → get_or v.levels p 0 ≤ get_or v.levels q 0 → q < p → ⊥
    same_after q le lt = let down = leveled.decided_above q p lt within none in omega (arith, le, down)

    -- a literal that is false since that level or a higher one is open there
    pub open_before : (m : Lit) (n : ℕ) → IsFalseAt v m n → get_or v.levels p 0 ≤ n → Contains (take p v.literals) (lit_complement m) → ⊥
    open_before m n f le i =
        let e = early_place v.literals p (lit_complement m) (omega (arith, within)) i in
        let same : e.0 ≡ f.place = same_place v once e.0 f.place e.2 f.within (ap (λ (x : Lit). x.term.0) (e.3 ∙ sym f.there)) in
        same_after e.0 (omega (arith, le, f.level, ap (λ (k : ℕ). get_or v.levels k 0) same)) e.1

    -- and does not hold
    pub not_before : IsConsistent v.literals → (m : Lit) (n : ℕ) → IsFalseAt v m n → Contains (take p v.literals) m → ⊥
    not_before consistent m n f i =
        let e = early_place v.literals p m (omega (arith, within)) i in
        consistent m (e.0, e.2, sym (get_or_default v.literals e.0 no_lit m e.2) ∙ e.3) (f.place, f.within, sym (get_or_default v.literals f.place no_lit (lit_complement m) f.within) ∙ f.there)

    -- one that is so since a lower level is false there
    pub false_before : (m : Lit) (n : ℕ) → IsFalseAt v m n → n < get_or v.levels p 0 → Contains (take p v.literals) (lit_complement m)
    false_before m n f lt = in_front v.literals f.place p (lit_complement m) (lower_before f.place f.within (omega (arith, lt, f.level))) f.within (omega (arith, within)) f.there

    -- from a clause with a literal that is not false, and another that is so since the trail's level, nothing follows there
    pub late_before : (clause : List Lit) (l m : Lit) → Contains clause l → Contains clause m → m ≢ l → (Contains v.literals (lit_complement l) → ⊥) → IsFalseAt v m v.level → PropagatesNothing (take p v.literals) clause
    late_before clause l m has_l has_m differ not_false f = inr (record {
      one = l;
      other = m;
      has_one = has_l;
      has_other = has_m;
      differ = λ e. differ (sym e);
      one_open = λ i.
          let e = early_place v.literals p (lit_complement l) (omega (arith, within)) i in
          not_false (e.0, e.2, sym (get_or_default v.literals e.0 no_lit (lit_complement l) e.2) ∙ e.3);
      other_open = open_before m v.level f (leveled.topped p within);
    })

    -- from a clause with one literal of a level nothing follows before each decision of the levels below, up to that of the others
    pub leveled_before : (clause : List Lit) (n level : ℕ) → HasOneAt v clause n level → get_or v.levels p 0 ≤ level → PropagatesNothing (take p v.literals) clause
    leveled_before clause n level h le = elim h.reached [
      | inl zero ↦ let up = leveled.decided p within none in absurd (omega (arith, zero, le, up))
      | inr x ↦
          let b = h.below x.0 x.1 x.2 in
          let same = one_level v once x.0 b.0 level b.1 x.3 in
          inr (record {
            one = h.one;
            other = x.0;
            has_one = h.there;
            has_other = x.1;
            differ = λ e. x.2 (sym e);
            one_open = open_before h.one n h.of_level (omega (arith, le, same, b.3));
            other_open = open_before x.0 level x.3 le;
          })
    ]

-- that each decision was made at quiet stays where the literals of higher levels go
pub decided_cut : (atoms : List TermId) (clauses : List (List Lit)) (a b : TrailView) (n : ℕ) → IsCutTo a n b → AreDecided atoms clauses a → AreDecided atoms clauses b
decided_cut atoms clauses a b n x h = record {
  quiet = λ p lt none. let small = early p lt in subst (IsPropagated clauses) (front p small) (h.quiet p (inside p small) (reason p small ∙ none));
  of_atoms = λ p lt none.
      let small = early p lt in
      subst (λ (l : Lit). Contains atoms l.term) (literal p small) (h.of_atoms p (inside p small) (reason p small ∙ none));
}
  where
    early : (p : ℕ) → p < length b.literals → p < x.kept
    early p lt = omega (arith, lt, ap length x.literals, length-take-le x.kept a.literals x.within)

    inside : (p : ℕ) → p < x.kept → p < length a.literals
    inside p small = omega (arith, small, x.within)

    front : (p : ℕ) → p < x.kept → take p a.literals ≡ take p b.literals
    front p small = sym (take-take p x.kept a.literals (omega (arith, small))) ∙ ap (take p) (sym x.literals)

    literal : (p : ℕ) → p < x.kept → get_or a.literals p no_lit ≡ get_or b.literals p no_lit
    literal p small = sym (get_or-take x.kept a.literals p no_lit small) ∙ ap (λ (xs : List Lit). get_or xs p no_lit) (sym x.literals)

    reason : (p : ℕ) → p < x.kept → get_or a.reasons p None ≡ get_or b.reasons p None
    reason p small = sym (get_or-take x.kept a.reasons p None small) ∙ ap (λ (xs : List (Option ℕ)). get_or xs p None) (sym x.reasons)
