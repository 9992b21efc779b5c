-- Another conflict by hand, with literals of level 0: of g, -g e, -a b, -b c, -b d and -c -d -e the last is false where
-- g and e follow, a is decided, and b, c and d follow. The first unique implication point is b; e is dropped, with the
-- reasons of e and g.
use Rattle.std.specs.Prelude.{◌≡◌, ◌≢◌, ◌<◌, ◌≤◌, ℕ, zero, suc, Bool, true, false, List, [], ◌∷◌, get_or, Contains}
use Rattle.std.specs.Prelude.{Some, None, refl}
use Rattle.std.proofs.lemmas.Bool.{cases_lt}
use Rattle.std.proofs.Common.{◌+◌, inl, inr, sym, ap, subst, arith}
use Rattle.spec_sorts.specs.Terms.{negated}
use Rattle.spec_sorts.specs.Literals.{Literal, literal_of}
use Rattle.spec_proofs.specs.declared.Rule.TheVariants.{Resolution}
use Rattle.term_core.specs.declared.ids.Lit.{Lit}
use Rattle.term_core.specs.Tables.{literal_at}
use Rattle.clause_literals.specs.Literals.{lit_complement}
use Rattle.proof_log.specs.declared.premises.StepId.{StepId}
use Rattle.proof_log.specs.Logs.{assumed, stepped}
use Rattle.proof_log.specs.Clashes.{literals_in}
use Rattle.conflict_learn.specs.Conflicts.{Conflict, step_of}
use Rattle.conflict_learn.specs.Points.{held_at, level_at, Falsifies, IsMet, of_clash, of_reason, HasTwo, IsDropped}
use Rattle.conflict_learn.specs.Points.{of_point, of_dropped, IsUsed, IsUip}
use Rattle.conflict_learn.specs.Rows.{variable, id, plus, negative_lit, two, number, same_number}

-- the conflict; g, e, a, b, c and d are the variables from 0 on
abbrev fixed_row : Conflict
fixed_row = record {
  table = record {
    sorts = [];
    symbols = [];
    terms = variable 0 ∷ variable 1 ∷ variable 2 ∷ variable 3 ∷ variable 4
        ∷ variable 5 ∷ negated (variable 0) ∷ negated (variable 1) ∷ negated (variable 2) ∷ negated (variable 3)
        ∷ negated (variable 4) ∷ negated (variable 5) ∷ [];
  };
  log = assumed (id 0) ∷ two 6 1 ∷ two 8 3 ∷ two 9 4 ∷ two 9 5 ∷ stepped Resolution [] [] (id 10 ∷ id 11 ∷ id 7 ∷ [])
      ∷ [];
  trail = record {
    literals = plus 0 ∷ plus 1 ∷ plus 2 ∷ plus 3 ∷ plus 4 ∷ plus 5 ∷ [];
    levels = 0 ∷ 0 ∷ 1 ∷ 1 ∷ 1 ∷ 1
        ∷ [];
    reasons = Some 0 ∷ Some 1 ∷ None ∷ Some 2 ∷ Some 3 ∷ Some 4 ∷ [];
    vars = 6;
    level = 1;
    propagated = 0;
  };
  clash = step_of 5;
}

-- the number of a variable's term, or its negation's
abbrev numbered : ℕ → Bool → ℕ
numbered n true = n
numbered n false = n + 6

-- and of a literal
abbrev name : Literal → ℕ
name l = numbered (number l.atom) l.positive

-- places that make literals of the steps false: c
c_false : Falsifies fixed_row 4 (step_of 5)
unfolding literal_of
c_false = (omega arith, record { in_table = omega arith; there = (0, omega arith, refl) })

-- d
d_false : Falsifies fixed_row 5 (step_of 5)
unfolding literal_of
d_false = (omega arith, record { in_table = omega arith; there = (1, omega arith, refl) })

-- e
e_false : Falsifies fixed_row 1 (step_of 5)
unfolding literal_of
e_false = (omega arith, record { in_table = omega arith; there = (2, omega arith, refl) })

-- b
b_false : Falsifies fixed_row 3 (step_of 4)
unfolding literal_of
b_false = (omega arith, record { in_table = omega arith; there = (0, omega arith, refl) })

-- g
g_false : Falsifies fixed_row 0 (step_of 1)
unfolding literal_of
g_false = (omega arith, record { in_table = omega arith; there = (0, omega arith, refl) })

-- where d is replaced, b and c are left; where c is too, b is
b_met : (k : ℕ) → k ≤ 5 → IsMet fixed_row k 3
b_met k le = of_reason 5 4 3 le (of_clash 5 d_false) refl b_false

-- so two are left down to there
goes_on : (k : ℕ) → 4 < k → k ≤ 6 → HasTwo fixed_row 1 k
goes_on zero lt le = absurd (omega (arith, lt))
goes_on (suc zero) lt le = absurd (omega (arith, lt))
goes_on (suc (suc zero)) lt le = absurd (omega (arith, lt))
goes_on (suc (suc (suc zero))) lt le = absurd (omega (arith, lt))
goes_on (suc (suc (suc (suc zero)))) lt le = absurd (omega (arith, lt))
goes_on (suc (suc (suc (suc (suc zero))))) lt le = record {
  one = 3;
  other = 4;
  apart = omega arith;
  before = omega arith;
  one_met = b_met 5 (omega arith);
  other_met = of_clash 4 c_false;
  one_level = refl;
  other_level = refl;
}
goes_on (suc (suc (suc (suc (suc (suc zero)))))) lt le = record {
  one = 4;
  other = 5;
  apart = omega arith;
  before = omega arith;
  one_met = of_clash 4 c_false;
  other_met = of_clash 5 d_false;
  one_level = refl;
  other_level =
      refl;
}
goes_on (suc (suc (suc (suc (suc (suc (suc k))))))) lt le = absurd (omega (arith, le))

-- from the fourth step on none has a, which is the variable 2
not_eight : (n : ℕ) → (n ≡ 8 → ⊥) → n ≢ 8
not_eight n h = h

without_a : (s : ℕ) → 3 ≤ s → s < 6 → (x : Literal) → Contains (literals_in fixed_row.table fixed_row.log (step_of s)) x
    → name x ≢ 8
unfolding literal_of
without_a zero le lt x i = absurd (omega (arith, le))
without_a (suc zero) le lt x i = absurd (omega (arith, le))
without_a (suc (suc zero)) le lt x i = absurd (omega (arith, le))
without_a (suc (suc (suc zero))) le lt x (zero, small, e) =
    subst (λ (y : Literal). name y ≢ 8) e (not_eight 9 (λ h. absurd (omega (arith, h))))
without_a (suc (suc (suc zero))) le lt x (suc zero, small, e) =
    subst (λ (y : Literal). name y ≢ 8) e (not_eight 4 (λ h. absurd (omega (arith, h))))
without_a (suc (suc (suc zero))) le lt x (suc (suc i), small, e) = absurd (omega (arith, small))
without_a (suc (suc (suc (suc zero)))) le lt x (zero, small, e) =
    subst (λ (y : Literal). name y ≢ 8) e (not_eight 9 (λ h. absurd (omega (arith, h))))
without_a (suc (suc (suc (suc zero)))) le lt x (suc zero, small, e) =
    subst (λ (y : Literal). name y ≢ 8) e (not_eight 5 (λ h. absurd (omega (arith, h))))
without_a (suc (suc (suc (suc zero)))) le lt x (suc (suc i), small, e) = absurd (omega (arith, small))
without_a (suc (suc (suc (suc (suc zero))))) le lt x (zero, small, e) =
    subst (λ (y : Literal). name y ≢ 8) e (not_eight 10 (λ h. absurd (omega (arith, h))))
without_a (suc (suc (suc (suc (suc zero))))) le lt x (suc zero, small, e) =
    subst (λ (y : Literal). name y ≢ 8) e (not_eight 11 (λ h. absurd (omega (arith, h))))
without_a (suc (suc (suc (suc (suc zero))))) le lt x (suc (suc zero), small, e) =
    subst (λ (y : Literal). name y ≢ 8) e (not_eight 7 (λ h. absurd (omega (arith, h))))
without_a (suc (suc (suc (suc (suc zero))))) le lt x (suc (suc (suc i)), small, e) = absurd (omega (arith, small))
without_a (suc (suc (suc (suc (suc (suc s)))))) le lt x i = absurd (omega (arith, lt))

-- the complement of each place's literal has the number of a negation
name_of : (p : ℕ) → p < 6 → name (literal_at fixed_row.table (lit_complement (held_at fixed_row p))) ≡ p + 6
name_of zero lt = refl
name_of (suc zero) lt = refl
name_of (suc (suc zero)) lt = refl
name_of (suc (suc (suc zero))) lt = refl
name_of (suc (suc (suc (suc zero)))) lt = refl
name_of (suc (suc (suc (suc (suc zero))))) lt = refl
name_of (suc (suc (suc (suc (suc (suc p)))))) lt = absurd (omega (arith, lt))

-- the reasons from c on
late_reason : (q r : ℕ) → 4 ≤ q → q < 6 → get_or fixed_row.trail.reasons q None ≡ Some r → r + 1 ≡ q
late_reason zero r le lt e = absurd (omega (arith, le))
late_reason (suc zero) r le lt e = absurd (omega (arith, le))
late_reason (suc (suc zero)) r le lt e = absurd (omega (arith, le))
late_reason (suc (suc (suc zero))) r le lt e = absurd (omega (arith, le))
late_reason (suc (suc (suc (suc zero)))) r le lt e = omega (arith, same_number 3 r e)
late_reason (suc (suc (suc (suc (suc zero))))) r le lt e = omega (arith, same_number 4 r e)
late_reason (suc (suc (suc (suc (suc (suc q)))))) r le lt e = absurd (omega (arith, lt))

-- what is met is of the trail
met_small : (k p : ℕ) → IsMet fixed_row k p → p < 6
met_small k _ (of_clash p f) = f.0
met_small k _ (of_reason q r p le m e f) = f.0

-- so a is not met
met_other : (p : ℕ) → IsMet fixed_row 4 p → p ≢ 2
met_other _ (of_clash p f) is =
    without_a 5 (omega arith) (omega arith) (literal_at fixed_row.table (lit_complement (held_at fixed_row p)))
    f.1.there (omega (arith, is, name_of p f.0))
met_other _ (of_reason q r p le m e f) is =
    let small = met_small 4 q m in
    let next = late_reason q r le small e in
    without_a r (omega (arith, next, le)) (omega (arith, next, small))
    (literal_at fixed_row.table (lit_complement (held_at fixed_row p))) f.1.there (omega (arith, is, name_of p f.0))

-- levels by place
level_high : (p : ℕ) → 2 ≤ p → p < 6 → level_at fixed_row p ≡ 1
level_high zero le lt = absurd (omega (arith, le))
level_high (suc zero) le lt = absurd (omega (arith, le))
level_high (suc (suc zero)) le lt = refl
level_high (suc (suc (suc zero))) le lt = refl
level_high (suc (suc (suc (suc zero)))) le lt = refl
level_high (suc (suc (suc (suc (suc zero))))) le lt = refl
level_high (suc (suc (suc (suc (suc (suc p)))))) le lt = absurd (omega (arith, lt))

-- e and g are of level 0
level_low : (p : ℕ) → p < 2 → level_at fixed_row p ≡ 0
level_low zero lt = refl
level_low (suc zero) lt = refl
level_low (suc (suc p)) lt = absurd (omega (arith, lt))

-- what is dropped
of_zero : (p : ℕ) → p < 6 → level_at fixed_row p ≡ 0 → p < 2
of_zero zero lt e = omega arith
of_zero (suc zero) lt e = omega arith
of_zero (suc (suc p)) lt e = absurd (omega (arith, e, level_high (suc (suc p)) (omega arith) lt))

-- their reasons
early_reason : (q r : ℕ) → q < 2 → get_or fixed_row.trail.reasons q None ≡ Some r → r ≡ q
early_reason zero r lt e = sym (same_number 0 r e)
early_reason (suc zero) r lt e = sym (same_number 1 r e)
early_reason (suc (suc q)) r lt e = absurd (omega (arith, lt))

-- a number below 7
below : (n : ℕ) → n < 7 → n < 7
below n h = h

-- of whose literals the numbers are low
low_names : (s : ℕ) → s < 2 → (x : Literal) → Contains (literals_in fixed_row.table fixed_row.log (step_of s)) x
    → name x < 7
unfolding literal_of
low_names zero lt x (zero, small, e) = subst (λ (y : Literal). name y < 7) e (below 0 (omega arith))
low_names zero lt x (suc i, small, e) = absurd (omega (arith, small))
low_names (suc zero) lt x (zero, small, e) = subst (λ (y : Literal). name y < 7) e (below 6 (omega arith))
low_names (suc zero) lt x (suc zero, small, e) = subst (λ (y : Literal). name y < 7) e (below 1 (omega arith))
low_names (suc zero) lt x (suc (suc i), small, e) = absurd (omega (arith, small))
low_names (suc (suc s)) lt x i = absurd (omega (arith, lt))

-- so nothing else is dropped
dropped_low : (p : ℕ) → IsDropped fixed_row 4 p → p < 2
dropped_low _ (of_point p lt m e) = of_zero p (met_small 4 p m) e
dropped_low _ (of_dropped q r p d e f) =
    let small = dropped_low q d in
    let n = low_names r (omega (arith, small, early_reason q r small e))
    (literal_at fixed_row.table (lit_complement (held_at fixed_row p))) f.1.there in
    omega (arith, n, name_of p f.0)

-- the premises are the conflict, the reasons of d and c, and those of e and g
abbrev steps : List StepId
steps = step_of 5 ∷ step_of 4 ∷ step_of 3 ∷ step_of 1 ∷ step_of 0 ∷ []

-- e is dropped
e_dropped : IsDropped fixed_row 4 1
e_dropped = of_point 1 (omega arith) (of_clash 1 e_false) refl

-- each is used
is_used : (s : StepId) → Contains steps s → IsUsed fixed_row 4 s
is_used s (zero, lt, e) = inl (sym e)
is_used s (suc zero, lt, e) = inr (inl (record {
  place = 5;
  replaced = omega arith;
  met = of_clash 5 d_false;
  reason = ap (λ (x : StepId). Some x.0) e;
}))
is_used s (suc (suc zero), lt, e) =
    inr (inl (record {
      place = 4;
      replaced = omega arith;
      met = of_clash 4 c_false;
      reason = ap (λ (x : StepId). Some x.0) e;
    }))
is_used s (suc (suc (suc zero)), lt, e) =
    inr (inr (record { place = 1; dropped = e_dropped; reason = ap (λ (x : StepId). Some x.0) e }))
is_used s (suc (suc (suc (suc zero))), lt, e) =
    inr (inr (record {
      place = 0;
      dropped = of_dropped 1 1 0 e_dropped refl g_false;
      reason = ap (λ (x : StepId). Some x.0) e;
    }))
is_used s (suc (suc (suc (suc (suc i)))), lt, e) = absurd (omega (arith, lt))

-- and no other is
is_step : (s : StepId) → IsUsed fixed_row 4 s → Contains steps s
is_step s (inl e) = (0, omega arith, sym e)
is_step s (inr (inl h)) = by h.place h.replaced (met_small 4 h.place h.met) h.reason
  where
    by : (q : ℕ) → 4 ≤ q → q < 6 → get_or fixed_row.trail.reasons q None ≡ Some s.0 → Contains steps s
    by zero le lt e = absurd (omega (arith, le))
    by (suc zero) le lt e = absurd (omega (arith, le))
    by (suc (suc zero)) le lt e = absurd (omega (arith, le))
    by (suc (suc (suc zero))) le lt e = absurd (omega (arith, le))
    by (suc (suc (suc (suc zero)))) le lt e = (2, omega arith, ap step_of (same_number 3 s.0 e))
    by (suc (suc (suc (suc (suc zero))))) le lt e = (1, omega arith, ap step_of (same_number 4 s.0 e))
    by (suc (suc (suc (suc (suc (suc q)))))) le lt e = absurd (omega (arith, lt))
is_step s (inr (inr h)) = by h.place (dropped_low h.place h.dropped) h.reason
  where
    by : (q : ℕ) → q < 2 → get_or fixed_row.trail.reasons q None ≡ Some s.0 → Contains steps s
    by zero lt e = (4, omega arith, ap step_of (same_number 0 s.0 e))
    by (suc zero) lt e = (3, omega arith, ap step_of (same_number 1 s.0 e))
    by (suc (suc q)) lt e = absurd (omega (arith, lt))

-- what is left and not of level 0 is b
left_is : (p : ℕ) → p < 4 → IsMet fixed_row 4 p → 0 < level_at fixed_row p → 3 ≡ p
left_is p lt m up = elim (cases_lt p 2) [
  | inl low ↦ absurd (omega (arith, up, level_low p low))
  | inr high ↦ omega (arith, lt, high, met_other p m)
]

-- the clause of the point is -b
b_is_learned : IsUip fixed_row 1 (negative_lit 3 ∷ []) (step_of 5 ∷ step_of 4 ∷ step_of 3 ∷ step_of 1 ∷ step_of 0 ∷ [])
b_is_learned = record {
  from = 4;
  point = record { within = omega arith; above = goes_on; here = here };
  left = record {
    once = λ i j d lt small. absurd (omega (arith, lt, small));
    all = λ p lt m up. (0, omega arith, ap (λ (q : ℕ). lit_complement (held_at fixed_row q)) (left_is p lt m up));
    only = only;
  };
  used = λ s. (is_used s, is_step s);
}
  where
    here : HasTwo fixed_row 1 4 → ⊥
    here h =
        let first = left_is h.one (omega (arith, h.apart, h.before)) h.one_met (omega (arith, h.one_level)) in
        let second = left_is h.other h.before h.other_met (omega (arith, h.other_level)) in
        omega (arith, h.apart, first, second)

    only : (m : Lit) → Contains (negative_lit 3 ∷ []) m → (p : ℕ) × (p < 4) × IsMet fixed_row 4 p
        × (0 < level_at fixed_row p) × (held_at fixed_row p ≡ lit_complement m)
    only m (zero, lt, e) = (3, omega arith, b_met 4 (omega arith), omega arith, ap lit_complement e)
    only m (suc i, lt, e) = absurd (omega (arith, lt))
