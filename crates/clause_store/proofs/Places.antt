-- Where what stays was, and where it is.
use Rattle.std.proofs.Common.{◌≡◌, ◌<◌, ◌≤◌, ◌+◌, ℕ, zero, suc, List, [], ◌∷◌, length, map, get_or, Option, Some, None, inl, inr, refl, sym, ap, ◌∙◌, subst, arith}
use Rattle.std.proofs.lemmas.Bool.{cases_lt}
use Rattle.std.proofs.lemmas.Option.{none-some, same_Some}
use Rattle.term_core.specs.declared.ids.Lit.{Lit}
use Rattle.proof_log.specs.declared.premises.StepId.{StepId}
use Rattle.clause_store.specs.Stores.{no_step}
use Rattle.clause_store.specs.Keeping.{staying, steps_in, count_first, next_after, numbered_from, StaysAs}

-- a number is that of a place with a step, and is how many are before it
pub numbered_at : (kept : List (Option StepId)) (next m k : ℕ) → get_or (numbered_from next kept) m None ≡ Some k → (s : StepId) × (get_or kept m None ≡ Some s) × (k ≡ next + count_first kept m)
numbered_at [] next m k e = absurd (none-some k e)
numbered_at (None ∷ kept) next zero k e = absurd (none-some k e)
numbered_at (Some s ∷ kept) next zero k e = (s, refl, omega (arith, same_Some next k e))
numbered_at (None ∷ kept) next (suc m) k e = numbered_at kept next m k e
numbered_at (Some s ∷ kept) next (suc m) k e = let h = numbered_at kept (suc next) m k e in (h.0, h.1, omega (arith, h.2))

pub numbered_count : (kept : List (Option StepId)) (next : ℕ) → length (numbered_from next kept) ≡ length kept
numbered_count [] next = refl
numbered_count (o ∷ kept) next = ap suc (numbered_count kept (next_after o next))

-- a place with a step has a number
pub number_at : (kept : List (Option StepId)) (next m : ℕ) (s : StepId) → get_or kept m None ≡ Some s → get_or (numbered_from next kept) m None ≡ Some (next + count_first kept m)
number_at [] next m s e = absurd (none-some s e)
number_at (None ∷ kept) next zero s e = absurd (none-some s e)
number_at (Some t ∷ kept) next zero s e = ap Some (omega arith)
number_at (None ∷ kept) next (suc m) s e = number_at kept next m s e
number_at (Some t ∷ kept) next (suc m) s e = number_at kept (suc next) m s e ∙ ap Some (omega arith)

pub some_within : (kept : List (Option StepId)) (m : ℕ) (s : StepId) → get_or kept m None ≡ Some s → m < length kept
some_within [] m s e = absurd (none-some s e)
some_within (o ∷ kept) zero s e = omega arith
some_within (o ∷ kept) (suc m) s e = omega (arith, some_within kept m s e)

-- there are no more with a step than places
pub steps_within : (kept : List (Option StepId)) → length (steps_in kept) ≤ length kept
steps_within [] = omega arith
steps_within (None ∷ kept) = omega (arith, steps_within kept)
steps_within (Some s ∷ kept) = omega (arith, steps_within kept)

-- where what stays by a number has been
pub record WasAt (kept : List (Option StepId)) (n : ℕ) : Type 0 where
  pub place : ℕ
  pub within : place < length kept
  pub step : StepId
  pub has : get_or kept place None ≡ Some step
  pub count : count_first kept place ≡ n

pub was_at : (kept : List (Option StepId)) (n : ℕ) → n < length (steps_in kept) → WasAt kept n
was_at [] n lt = absurd (omega (arith, lt))
was_at (None ∷ kept) n lt = let h = was_at kept n lt in record { place = suc h.place; within = omega (arith, h.within); step = h.step; has = h.has; count = h.count }
was_at (Some s ∷ kept) zero lt = record { place = 0; within = omega arith; step = s; has = refl; count = refl }
was_at (Some s ∷ kept) (suc n) lt = let h = was_at kept n (omega (arith, lt)) in record { place = suc h.place; within = omega (arith, h.within); step = h.step; has = h.has; count = ap suc h.count }

-- places with a step have different numbers, which rise
pub count_rises : (kept : List (Option StepId)) (m j : ℕ) (s : StepId) → m < j → get_or kept m None ≡ Some s → count_first kept m < count_first kept j
count_rises kept m zero s lt e = absurd (omega (arith, lt))
count_rises [] m (suc j) s lt e = absurd (none-some s e)
count_rises (None ∷ kept) zero (suc j) s lt e = absurd (none-some s e)
count_rises (Some t ∷ kept) zero (suc j) s lt e = omega arith
count_rises (None ∷ kept) (suc m) (suc j) s lt e = count_rises kept m j s (omega (arith, lt)) e
count_rises (Some t ∷ kept) (suc m) (suc j) s lt e = omega (arith, count_rises kept m j s (omega (arith, lt)) e)

pub count_grows : (kept : List (Option StepId)) (m j : ℕ) → m ≤ j → count_first kept m ≤ count_first kept j
count_grows kept zero j le = omega arith
count_grows kept (suc m) zero le = absurd (omega (arith, le))
count_grows [] (suc m) (suc j) le = omega arith
count_grows (None ∷ kept) (suc m) (suc j) le = count_grows kept m j (omega (arith, le))
count_grows (Some t ∷ kept) (suc m) (suc j) le = omega (arith, count_grows kept m j (omega (arith, le)))

-- none is past the last
pub count_past : (kept : List (Option StepId)) (m : ℕ) (s : StepId) → get_or kept m None ≡ Some s → count_first kept m < length (steps_in kept)
count_past [] m s e = absurd (none-some s e)
count_past (None ∷ kept) zero s e = absurd (none-some s e)
count_past (Some t ∷ kept) zero s e = omega arith
count_past (None ∷ kept) (suc m) s e = count_past kept m s e
count_past (Some t ∷ kept) (suc m) s e = omega (arith, count_past kept m s e)

pub count_most : (kept : List (Option StepId)) (m : ℕ) → count_first kept m ≤ length (steps_in kept)
count_most kept zero = omega arith
count_most [] (suc m) = omega arith
count_most (None ∷ kept) (suc m) = count_most kept m
count_most (Some t ∷ kept) (suc m) = omega (arith, count_most kept m)

-- so a number is that of one place
pub number_tells : (kept : List (Option StepId)) (m j n : ℕ) → get_or (numbered_from 0 kept) m None ≡ Some n → get_or (numbered_from 0 kept) j None ≡ Some n → m ≡ j
number_tells kept m j n a b =
    let p = numbered_at kept 0 m n a in
    let q = numbered_at kept 0 j n b in
    elim (cases_lt m j) [
      | inl before ↦ absurd (omega (arith, p.2, q.2, count_rises kept m j p.0 before p.1))
      | inr le ↦ elim (cases_lt j m) [
        | inl after ↦ absurd (omega (arith, p.2, q.2, count_rises kept j m q.0 after q.1))
        | inr ge ↦ omega (arith, le, ge)
      ]
    ]

-- ---- what is there

pub chosen_count : {X : Type 0} (kept : List (Option StepId)) (xs : List X) → length kept ≡ length xs → length (staying kept xs) ≡ length (steps_in kept)
chosen_count [] xs e = refl
chosen_count (o ∷ kept) [] e = absurd (omega (arith, e))
chosen_count (None ∷ kept) (x ∷ xs) e = chosen_count kept xs (omega (arith, e))
chosen_count (Some s ∷ kept) (x ∷ xs) e = ap suc (chosen_count kept xs (omega (arith, e)))

pub chosen_at : {X : Type 0} (kept : List (Option StepId)) (xs : List X) (m : ℕ) (s : StepId) (d : X) → get_or kept m None ≡ Some s → m < length xs → get_or (staying kept xs) (count_first kept m) d ≡ get_or xs m d
chosen_at [] xs m s d e lt = absurd (none-some s e)
chosen_at (o ∷ kept) [] m s d e lt = absurd (omega (arith, lt))
chosen_at (None ∷ kept) (x ∷ xs) zero s d e lt = absurd (none-some s e)
chosen_at (Some t ∷ kept) (x ∷ xs) zero s d e lt = refl
chosen_at (None ∷ kept) (x ∷ xs) (suc m) s d e lt = chosen_at kept xs m s d e (omega (arith, lt))
chosen_at (Some t ∷ kept) (x ∷ xs) (suc m) s d e lt = chosen_at kept xs m s d e (omega (arith, lt))

pub step_at : (kept : List (Option StepId)) (m : ℕ) (s : StepId) → get_or kept m None ≡ Some s → get_or (steps_in kept) (count_first kept m) no_step ≡ s
step_at [] m s e = absurd (none-some s e)
step_at (None ∷ kept) zero s e = absurd (none-some s e)
step_at (Some t ∷ kept) zero s e = same_Some t s e
step_at (None ∷ kept) (suc m) s e = step_at kept m s e
step_at (Some t ∷ kept) (suc m) s e = step_at kept m s e

-- each element may be changed before or after
pub chosen_map : {X Y : Type 0} (f : X → Y) (kept : List (Option StepId)) (xs : List X) → map f (staying kept xs) ≡ staying kept (map f xs)
chosen_map f [] xs = refl
chosen_map f (o ∷ kept) [] = refl
chosen_map f (None ∷ kept) (x ∷ xs) = chosen_map f kept xs
chosen_map f (Some s ∷ kept) (x ∷ xs) = ap (λ ys. f x ∷ ys) (chosen_map f kept xs)

-- ---- the law

module _ (kept : List (Option StepId)) (clauses : List (List Lit)) (count : length kept ≡ length clauses) where
  stays : (m : ℕ) (s : StepId) → get_or kept m None ≡ Some s → m < length clauses → StaysAs kept clauses m (count_first kept m)
  stays m s e lt = record {
    was = lt;
    there = omega (arith, count_past kept m s e, chosen_count kept clauses count);
    step = e ∙ ap Some (sym (step_at kept m s e));
    clause = chosen_at kept clauses m s [] e lt;
  }

  pub stays_from : (m : ℕ) (s : StepId) → get_or kept m None ≡ Some s → (n : ℕ) × StaysAs kept clauses m n
  stays_from m s e = (count_first kept m, stays m s e (omega (arith, some_within kept m s e, count)))

  pub stays_at : (n : ℕ) → n < length (staying kept clauses) → (m : ℕ) × StaysAs kept clauses m n
  stays_at n lt =
      let w = was_at kept n (omega (arith, lt, chosen_count kept clauses count)) in
      (w.place, subst (StaysAs kept clauses w.place) w.count (stays w.place w.step w.has (omega (arith, w.within, count))))
