-- A conflict by hand: of the clauses -a b, -b c, -b d and -c -d the last is false where a is decided, and b, c and d
-- follow. The first unique implication point is b.
use Rattle.std.specs.Prelude.{◌≡◌, ◌<◌, ◌≤◌, ℕ, zero, suc, true, false, List, [], ◌∷◌, get_or, Contains, Some, None}
use Rattle.std.specs.Prelude.{refl}
use Rattle.std.proofs.Common.{◌+◌, inl, inr, sym, ap, subst, arith}
use Rattle.spec_sorts.specs.Terms.{Truth, Parameter, Term, app, nil, negated}
use Rattle.spec_sorts.specs.Literals.{Literal, literal_of}
use Rattle.spec_proofs.specs.declared.Rule.TheVariants.{Resolution}
use Rattle.term_core.specs.declared.ids.TermId.{TermId}
use Rattle.term_core.specs.declared.ids.Lit.{Lit}
use Rattle.term_core.specs.Tables.{literal_at}
use Rattle.clause_literals.specs.Literals.{lit_complement}
use Rattle.proof_log.specs.declared.premises.StepId.{StepId}
use Rattle.proof_log.specs.Logs.{Logged, stepped}
use Rattle.proof_log.specs.Clashes.{literals_in}
use Rattle.conflict_learn.specs.Conflicts.{Conflict, step_of}
use Rattle.conflict_learn.specs.Points.{held_at, level_at, Falsifies, IsMet, of_clash, of_reason, HasTwo, IsDropped}
use Rattle.conflict_learn.specs.Points.{of_point, of_dropped, IsUsed, IsUip}

-- the n-th variable
abbrev pub variable : ℕ → Term
variable n = app (Parameter n Truth) nil

-- its number in the table; that of its negation is greater by 4
abbrev pub id : ℕ → TermId
id n = record { 0 = n }

-- its literals
abbrev pub plus : ℕ → Lit
plus n = record { term = id n; positive = true }

-- and their complements
abbrev pub negative_lit : ℕ → Lit
negative_lit n = record { term = id n; positive = false }

-- a step with a clause of two terms
abbrev pub two : ℕ → ℕ → Logged
two m n = stepped Resolution [] [] (id m ∷ id n ∷ [])

-- the conflict
abbrev row : Conflict
row = record {
  table = record {
    sorts = [];
    symbols = [];
    terms = variable 0 ∷ variable 1 ∷ variable 2 ∷ variable 3
        ∷ negated (variable 0) ∷ negated (variable 1) ∷ negated (variable 2) ∷ negated (variable 3) ∷ [];
  };
  log = two 4 1 ∷ two 5 2 ∷ two 5 3 ∷ two 6 7 ∷ [];
  trail = record {
    literals = plus 0 ∷ plus 1 ∷ plus 2 ∷ plus 3 ∷ [];
    levels = 1 ∷ 1 ∷ 1 ∷ 1 ∷ [];
    reasons = None ∷ Some 0 ∷ Some 1 ∷ Some 2 ∷ [];
    vars = 4;
    level = 1;
    propagated = 0;
  };
  clash = step_of 3;
}

-- the number of a variable
abbrev pub number : Term → ℕ
number (app (Parameter n s) ts) = n
number (app h ts) = 9

-- the number of a literal's variable
abbrev which : Literal → ℕ
which l = number l.atom

-- places that make literals of the steps false: c
c_in_clash : Falsifies row 2 (step_of 3)
unfolding literal_of
c_in_clash = (omega arith, record { in_table = omega arith; there = (0, omega arith, refl) })

-- d makes the other false
d_in_clash : Falsifies row 3 (step_of 3)
unfolding literal_of
d_in_clash = (omega arith, record { in_table = omega arith; there = (1, omega arith, refl) })

-- b makes the other literal of the reason of d false
b_in_reason : Falsifies row 1 (step_of 2)
unfolding literal_of
b_in_reason = (omega arith, record { in_table = omega arith; there = (0, omega arith, refl) })

-- where d is replaced, b and c are left; where c is too, b is
b_met : (k : ℕ) → k ≤ 3 → IsMet row k 1
b_met k le = of_reason 3 2 1 le (of_clash 3 d_in_clash) refl b_in_reason

-- so two are left down to there
goes_on : (k : ℕ) → 2 < k → k ≤ 4 → HasTwo row 1 k
goes_on zero lt le = absurd (omega (arith, lt))
goes_on (suc zero) lt le = absurd (omega (arith, lt))
goes_on (suc (suc zero)) lt le = absurd (omega (arith, lt))
goes_on (suc (suc (suc zero))) lt le = record {
  one = 1;
  other = 2;
  apart = omega arith;
  before = omega arith;
  one_met = b_met 3 (omega arith);
  other_met = of_clash 2 c_in_clash;
  one_level = refl;
  other_level = refl;
}
goes_on (suc (suc (suc (suc zero)))) lt le = record {
  one = 2;
  other = 3;
  apart = omega arith;
  before = omega arith;
  one_met = of_clash 2 c_in_clash;
  other_met = of_clash 3 d_in_clash;
  one_level = refl;
  other_level = refl;
}
goes_on (suc (suc (suc (suc (suc k))))) lt le = absurd (omega (arith, le))

-- a number more is above 0
more : (n : ℕ) → 0 < suc n
more n = omega arith

-- but for the first step none has a
without_a : (s : ℕ) → 0 < s → s < 4 → (x : Literal) → Contains (literals_in row.table row.log (step_of s)) x
    → 0 < which x
unfolding literal_of
without_a zero up lt x i = absurd (omega (arith, up))
without_a (suc zero) up lt x (zero, small, e) = subst (λ (y : Literal). 0 < which y) e (more 0)
without_a (suc zero) up lt x (suc zero, small, e) = subst (λ (y : Literal). 0 < which y) e (more 1)
without_a (suc zero) up lt x (suc (suc i), small, e) = absurd (omega (arith, small))
without_a (suc (suc zero)) up lt x (zero, small, e) = subst (λ (y : Literal). 0 < which y) e (more 0)
without_a (suc (suc zero)) up lt x (suc zero, small, e) = subst (λ (y : Literal). 0 < which y) e (more 2)
without_a (suc (suc zero)) up lt x (suc (suc i), small, e) = absurd (omega (arith, small))
without_a (suc (suc (suc zero))) up lt x (zero, small, e) = subst (λ (y : Literal). 0 < which y) e (more 1)
without_a (suc (suc (suc zero))) up lt x (suc zero, small, e) = subst (λ (y : Literal). 0 < which y) e (more 2)
without_a (suc (suc (suc zero))) up lt x (suc (suc i), small, e) = absurd (omega (arith, small))
without_a (suc (suc (suc (suc s)))) up lt x i = absurd (omega (arith, lt))

-- a reason is one number
pub same_number : (a b : ℕ) → Some a ≡ Some b → a ≡ b
same_number a b e = cc

-- the reasons from c on
late_reason : (q r : ℕ) → 2 ≤ q → q < 4 → get_or row.trail.reasons q None ≡ Some r → r + 1 ≡ q
late_reason zero r le lt e = absurd (omega (arith, le))
late_reason (suc zero) r le lt e = absurd (omega (arith, le))
late_reason (suc (suc zero)) r le lt e = omega (arith, same_number 1 r e)
late_reason (suc (suc (suc zero))) r le lt e = omega (arith, same_number 2 r e)
late_reason (suc (suc (suc (suc q)))) r le lt e = absurd (omega (arith, lt))

-- so a is not met
not_a : (p : ℕ) → 0 < which (literal_at row.table (lit_complement (held_at row p))) → 0 < p
not_a zero h = h
not_a (suc p) h = omega arith

-- what is met is of the trail
met_small : (k p : ℕ) → IsMet row k p → p < 4
met_small k _ (of_clash p f) = f.0
met_small k _ (of_reason q r p le m e f) = f.0

-- nor by the others
met_later : (p : ℕ) → IsMet row 2 p → 0 < p
met_later _ (of_clash p f) = not_a p (without_a 3 (omega arith) (omega arith)
    (literal_at row.table (lit_complement (held_at row p))) f.1.there)
met_later _ (of_reason q r p le m e f) =
    let small = met_small 2 q m in
    let is = late_reason q r le small e in
    not_a p (without_a r (omega (arith, is, le)) (omega (arith, is, small))
    (literal_at row.table (lit_complement (held_at row p))) f.1.there)

-- and nothing is dropped
level_one : (p : ℕ) → p < 4 → level_at row p ≡ 1
level_one zero lt = refl
level_one (suc zero) lt = refl
level_one (suc (suc zero)) lt = refl
level_one (suc (suc (suc zero))) lt = refl
level_one (suc (suc (suc (suc p)))) lt = absurd (omega (arith, lt))

-- so none is
none_dropped : (p : ℕ) → IsDropped row 2 p → ⊥
none_dropped _ (of_point p lt m e) = omega (arith, e, level_one p (met_small 2 p m))
none_dropped _ (of_dropped q r p d e f) = none_dropped q d

-- the premises are the conflict and the reasons of d and c
abbrev steps : List StepId
steps = step_of 3 ∷ step_of 2 ∷ step_of 1 ∷ []

-- each is used
is_used : (s : StepId) → Contains steps s → IsUsed row 2 s
is_used s (zero, lt, e) = inl (sym e)
is_used s (suc zero, lt, e) = inr (inl (record {
  place = 3;
  replaced = omega arith;
  met = of_clash 3 d_in_clash;
  reason = ap (λ (x : StepId). Some x.0) e;
}))
is_used s (suc (suc zero), lt, e) =
    inr (inl (record {
      place = 2;
      replaced = omega arith;
      met = of_clash 2 c_in_clash;
      reason = ap (λ (x : StepId). Some x.0) e;
    }))
is_used s (suc (suc (suc i)), lt, e) = absurd (omega (arith, lt))

-- and no other is
is_step : (s : StepId) → IsUsed row 2 s → Contains steps s
is_step s (inl e) = (0, omega arith, sym e)
is_step s (inr (inl h)) = by h.place h.replaced (met_small 2 h.place h.met) h.reason
  where
    by : (q : ℕ) → 2 ≤ q → q < 4 → get_or row.trail.reasons q None ≡ Some s.0 → Contains steps s
    by zero le lt e = absurd (omega (arith, le))
    by (suc zero) le lt e = absurd (omega (arith, le))
    by (suc (suc zero)) le lt e = (2, omega arith, ap step_of (same_number 1 s.0 e))
    by (suc (suc (suc zero))) le lt e = (1, omega arith, ap step_of (same_number 2 s.0 e))
    by (suc (suc (suc (suc q)))) le lt e = absurd (omega (arith, lt))
is_step s (inr (inr h)) = absurd (none_dropped h.place h.dropped)

-- the clause of the point is -b
b_is_learned : IsUip row 1 (negative_lit 1 ∷ []) (step_of 3 ∷ step_of 2 ∷ step_of 1 ∷ [])
b_is_learned = record {
  from = 2;
  point = record {
    within = omega arith;
    above = goes_on;
    here = λ h. omega (arith, h.apart, h.before, met_later h.one h.one_met);
  };
  left = record {
    once = λ i j d lt small. absurd (omega (arith, lt, small));
    all = λ p lt m up. let is : 1 ≡ p =
        omega (arith, lt, met_later p m) in (0, omega arith, ap (λ (q : ℕ). lit_complement (held_at row q)) is);
    only = only;
  };
  used = λ s. (is_used s, is_step s);
}
  where
    only : (m : Lit) → Contains (negative_lit 1 ∷ []) m → (p : ℕ) × (p < 2) × IsMet row 2 p × (0 < level_at row p)
        × (held_at row p ≡ lit_complement m)
    only m (zero, lt, e) = (1, omega arith, b_met 2 (omega arith), omega arith, ap lit_complement e)
    only m (suc i, lt, e) = absurd (omega (arith, lt))
