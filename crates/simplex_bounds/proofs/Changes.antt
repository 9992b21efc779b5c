-- How entries change: one more, and the last one gone.
use Rattle.std.proofs.Common.{◌≡◌, ℕ, zero, suc, ◌+◌, ◌<◌, ◌≤◌, List, [], ◌∷◌, ◌++◌, length, take, cond, Option, Some, refl, sym, ◌∙◌, ap, subst, arith, slice_index_or, slice_set, append-nil, append_assoc}
use Rattle.std.proofs.lemmas.List.{map-append, length-set}
use Rattle.spec_tableaux.proofs.Steps.{same_eqb}
use Rattle.simplex_bounds.specs.declared.bounds.Bound.{Bound}
use Rattle.simplex_bounds.specs.declared.limits.VariableLimits.{VariableLimits}
use Rattle.simplex_bounds.specs.declared.held.HeldBound.{HeldBound}
use Rattle.simplex_bounds.specs.Held.{lesser, IsLeastCrossed}
use Rattle.simplex_bounds.specs.Limits.{unlimited, limit_at, with_limit, tightened, are_crossed, limits_in}
use Rattle.simplex_bounds.specs.Kept.{bounds_of, IsEntry, AreEntries, LimitsFit}
use Rattle.simplex_bounds.proofs.Strongest.{limits_more, limits_other, limits_back, limit_is, one_changed}
use Rattle.simplex_bounds.proofs.Crossings.{crossed_step}

pub entries_more : (before : List Bound) (es : List HeldBound) (e : HeldBound) → AreEntries before es → IsEntry (before ++ bounds_of es) e → AreEntries before (es ++ e ∷ [])
entries_more before [] e a h = (subst (λ z. IsEntry z e) (append-nil before) h, tt)
entries_more before (x ∷ es) e a h = (a.0, entries_more (before ++ x.bound ∷ []) es e a.1 (subst (λ z. IsEntry z e) (sym (append_assoc before (x.bound ∷ []) (bounds_of es))) h))

pub entries_cut : (before : List Bound) (es : List HeldBound) (n : ℕ) → AreEntries before es → AreEntries before (take n es)
entries_cut before es zero a = tt
entries_cut before [] (suc n) a = tt
entries_cut before (x ∷ es) (suc n) a = (a.0, entries_cut (before ++ x.bound ∷ []) es n a.1)

pub last_entry : (before : List Bound) (es : List HeldBound) (e : HeldBound) → AreEntries before (es ++ e ∷ []) → IsEntry (before ++ bounds_of es) e
last_entry before [] e a = subst (λ z. IsEntry z e) (sym (append-nil before)) a.0
last_entry before (x ∷ es) e a = subst (λ z. IsEntry z e) (append_assoc before (x.bound ∷ []) (bounds_of es)) (last_entry (before ++ x.bound ∷ []) es e a.1)

-- the last bound's variable is there
pub last_there : (ls : List VariableLimits) (es : List HeldBound) (e : HeldBound) (n : ℕ) → LimitsFit ls es → n + 1 ≡ length es → e ≡ slice_index_or es n e → e.bound.variable < length ls
last_there ls es e n k m g = subst (λ (z : HeldBound). z.bound.variable < length ls) (sym g) (k.there n e (omega (arith, m)))

pub split_last : {A : Type 0} (xs : List A) (n : ℕ) (d : A) → n + 1 ≡ length xs → xs ≡ take n xs ++ slice_index_or xs n d ∷ []
split_last [] n d h = absurd (omega arith)
split_last (x ∷ []) zero d h = refl
split_last (x ∷ y ∷ xs) zero d h = absurd (omega arith)
split_last (x ∷ []) (suc n) d h = absurd (omega arith)
split_last (x ∷ y ∷ xs) (suc n) d h = ap (λ z. x ∷ z) (split_last (y ∷ xs) n d (omega arith))

-- what holds of each entry's bound holds of each bound
pub all_there : {L : Type 0} (ls : List L) (es : List HeldBound) → ((k : ℕ) (d : HeldBound) → k < length es → (slice_index_or es k d).bound.variable < length ls)
    → (k : ℕ) (d : Bound) → k < length (bounds_of es) → (slice_index_or (bounds_of es) k d).variable < length ls
all_there ls [] h k d m = absurd (omega arith)
all_there ls (e ∷ es) h zero d m = h zero e (omega arith)
all_there ls (e ∷ es) h (suc k) d m = all_there ls es (λ k d m. h (suc k) d (omega arith)) k d (omega arith)

same_default : {A : Type 0} (xs : List A) (i : ℕ) (a b : A) → i < length xs → slice_index_or xs i a ≡ slice_index_or xs i b
same_default [] i a b h = absurd (omega arith)
same_default (x ∷ xs) zero a b h = refl
same_default (x ∷ xs) (suc i) a b h = same_default xs i a b (omega arith)

bounds_more : (es : List HeldBound) (e : HeldBound) → bounds_of (es ++ e ∷ []) ≡ bounds_of es ++ e.bound ∷ []
bounds_more es e = map-append (λ (e : HeldBound). e.bound) es (e ∷ [])

-- the limits of a variable are its strongest bounds
limits_are : (ls : List VariableLimits) (es : List HeldBound) (x : ℕ) (l : VariableLimits) → LimitsFit ls es → x < length ls → l ≡ slice_index_or ls x l → l ≡ limits_in (bounds_of es) x
limits_are ls es x l k h e = e ∙ same_default ls x l unlimited h ∙ k.strongest_by x

-- each bound has a variable, and so has one more
there_more : (n m : ℕ) (es : List HeldBound) (e : HeldBound) → n ≤ m → ((k : ℕ) (d : HeldBound) → k < length es → (slice_index_or es k d).bound.variable < n) → e.bound.variable < m
    → (k : ℕ) (d : HeldBound) → k < length (es ++ e ∷ []) → (slice_index_or (es ++ e ∷ []) k d).bound.variable < m
there_more n m [] e o h g zero d l = g
there_more n m [] e o h g (suc k) d l = absurd (omega arith)
there_more n m (x ∷ es) e o h g zero d l = let i = h zero x (omega arith) in omega (arith, i, o)
there_more n m (x ∷ es) e o h g (suc k) d l = there_more n m es e o (λ k d l. h (suc k) d (omega arith)) g k d (omega arith)

there_cut : (n m : ℕ) (es : List HeldBound) (c : ℕ) → n ≤ m → ((k : ℕ) (d : HeldBound) → k < length es → (slice_index_or es k d).bound.variable < n)
    → (k : ℕ) (d : HeldBound) → k < length (take c es) → (slice_index_or (take c es) k d).bound.variable < m
there_cut n m es zero o h k d l = absurd (omega arith)
there_cut n m [] (suc c) o h k d l = absurd (omega arith)
there_cut n m (x ∷ es) (suc c) o h zero d l = let i = h zero x (omega arith) in omega (arith, i, o)
there_cut n m (x ∷ es) (suc c) o h (suc k) d l = there_cut n m es c o (λ k d l. h (suc k) d (omega arith)) k d (omega arith)

-- one bound more is held
pub kept_more : (ls : List VariableLimits) (es new : List HeldBound) (e : HeldBound) (l t : VariableLimits) (before : Option ℕ) → LimitsFit ls es → e.bound.variable < length ls
    → l ≡ slice_index_or ls e.bound.variable l → t ≡ tightened l e.bound → e.found ≡ limit_at e.bound.side l → IsLeastCrossed (bounds_of es) before
    → e.crossed ≡ cond (are_crossed t) (Some (lesser before e.bound.variable)) before → new ≡ es ++ e ∷ [] → LimitsFit (slice_set ls e.bound.variable t) new
kept_more ls es new e l t before k h i u f b q n =
    let x = e.bound.variable in
    let is : l ≡ limits_in (bounds_of es) x = limits_are ls es x l k h i in
    let tight : t ≡ tightened (limits_in (bounds_of es) x) e.bound = u ∙ ap (λ l. tightened l e.bound) is in
    let size : length (slice_set ls x t) ≡ length ls = length-set ls x t in
    let after = bounds_more es e in
    let limits = one_changed ls x t (limits_in (bounds_of es)) (limits_in (bounds_of es ++ e.bound ∷ [])) h k.strongest_by (tight ∙ sym (limits_more (bounds_of es) e.bound x (same_eqb x))) (limits_other (bounds_of es) e.bound) in
    let crossed : e.crossed ≡ cond (are_crossed (tightened (limits_in (bounds_of es) x) e.bound)) (Some (lesser before x)) before = q ∙ ap (λ t. cond (are_crossed t) (Some (lesser before x)) before) tight in
    let entry : IsEntry (bounds_of es) e = record {
      found_by = f ∙ ap (limit_at e.bound.side) is ∙ limit_is e.bound.side x (bounds_of es);
      crossed_by = subst (IsLeastCrossed (bounds_of es ++ e.bound ∷ [])) (sym crossed) (crossed_step (bounds_of es) e.bound before b);
    } in
    subst (LimitsFit (slice_set ls x t)) (sym n) (record {
      there = there_more (length ls) (length (slice_set ls x t)) es e (omega (arith, size)) k.there (omega (arith, size, h));
      strongest_by = λ y. limits y ∙ ap (λ bs. limits_in bs y) (sym after);
      entries_by = entries_more [] es e k.entries_by entry;
    })

-- the last bound goes
pub kept_back : (ls : List VariableLimits) (es new : List HeldBound) (e : HeldBound) (l t : VariableLimits) (n : ℕ) → LimitsFit ls es → n + 1 ≡ length es → e ≡ slice_index_or es n e
    → l ≡ slice_index_or ls e.bound.variable l → t ≡ with_limit e.bound.side e.found l → new ≡ take n es → LimitsFit (slice_set ls e.bound.variable t) new
kept_back ls es new e l t n k m g i u w =
    let x = e.bound.variable in
    let before = take n es in
    let whole : es ≡ before ++ e ∷ [] = split_last es n e m ∙ ap (λ z. before ++ z ∷ []) (sym g) in
    let after : bounds_of es ≡ bounds_of before ++ e.bound ∷ [] = ap bounds_of whole ∙ bounds_more before e in
    let h = last_there ls es e n k m g in
    let entry : IsEntry (bounds_of before) e = last_entry [] before e (subst (AreEntries []) whole k.entries_by) in
    let is : l ≡ limits_in (bounds_of before ++ e.bound ∷ []) x = limits_are ls es x l k h i ∙ ap (λ bs. limits_in bs x) after in
    let back : t ≡ limits_in (bounds_of before) x = u ∙ (λ i. with_limit e.bound.side (entry.found_by i) (is i)) ∙ limits_back (bounds_of before) e.bound in
    let size : length (slice_set ls x t) ≡ length ls = length-set ls x t in
    let limits = one_changed ls x t (limits_in (bounds_of before ++ e.bound ∷ [])) (limits_in (bounds_of before)) h (λ y. k.strongest_by y ∙ ap (λ bs. limits_in bs y) after) back
    (λ y o. sym (limits_other (bounds_of before) e.bound y o)) in
    subst (LimitsFit (slice_set ls x t)) (sym w) (record {
      there = there_cut (length ls) (length (slice_set ls x t)) es n (omega (arith, size)) k.there;
      strongest_by = limits;
      entries_by = entries_cut [] es n k.entries_by;
    })

-- what crosses since the last bound
pub last_crossed : (ls : List VariableLimits) (es : List HeldBound) (e : HeldBound) (n : ℕ) → LimitsFit ls es → n + 1 ≡ length es → e ≡ slice_index_or es n e → IsLeastCrossed (bounds_of es) e.crossed
last_crossed ls es e n k m g =
    let whole : es ≡ take n es ++ e ∷ [] = split_last es n e m ∙ ap (λ z. take n es ++ z ∷ []) (sym g) in
    subst (λ bs. IsLeastCrossed bs e.crossed) (sym (ap bounds_of whole ∙ bounds_more (take n es) e)) (last_entry [] (take n es) e (subst (AreEntries []) whole k.entries_by)).crossed_by
