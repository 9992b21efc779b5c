-- Variables that may violate a bound.
use Rattle.std.proofs.Common.{◌≡◌, ℕ, ◌<◌, Bool, true, false, List, [], ◌∷◌, All, inl, inr, refl, sym, ◌∙◌, ap, arith, ◌==◌, ◌||◌, ◌&&◌, not, subst, Less, Equal, Greater}
use Rattle.std.specs.Prelude.{◌⊎◌}
use Rattle.std.specs.Ordering.{match_ordering, nat_cmp}
use Rattle.std.specs.declared.cmp.Ordering.{Ordering}
use Rattle.std.specs.BTreeSet.{insert_key}
use Rattle.std.proofs.lemmas.Bool.{and_parts}
use Rattle.std.proofs.lemmas.Bool.Decides.{nat_tests}
use Rattle.std.proofs.lemmas.Cmp.{ranked}
use Rattle.std.proofs.lemmas.List.Elements.{All-head, All-tail}
use Rattle.std.proofs.Math.Bool.{or-true}
use Rattle.spec_tableaux.specs.Spaces.{Pair}
use Rattle.spec_tableaux.specs.Rows.{is_basic, exchanged, pivot_of, row_of}
use Rattle.spec_tableaux.specs.SolvedForms.{IsPivot}
use Rattle.spec_tableaux.specs.Ranges.{below, above, is_within}
use Rattle.spec_tableaux.specs.LeastVariable.{IsLeast, is_out}
use Rattle.spec_tableaux.specs.Numbers.{Number, numbers}
use Rattle.spec_tableaux.proofs.SolvedForms.{nonbasic_after, leaving_nonbasic, apart}
use Rattle.spec_tableaux.proofs.Steps.{same_eqb}
use Rattle.spec_tableaux.specs.Points.{deltas, Ranges, AssignmentState}
use Rattle.simplex_check.specs.Changes.{Lead, is_changed}
use Rattle.simplex_check.specs.Suspects.{is_among, Suspect, SuspectBut}
use Rattle.simplex_check.specs.declared.changes.ValueChange.{ValueChange}

same_number : (k x : ℕ) → nat_cmp k x ≡ Equal → k ≡ x
same_number k x e = ranked k x Equal (sym e)

less_number : (k x : ℕ) → nat_cmp k x ≡ Less → k < x
less_number k x e = ranked k x Less (sym e)

-- either the first is the number, or it is among the others
pub among_first : (z y : ℕ) (ys : List ℕ) → is_among z (y ∷ ys) ≡ true → (y ≡ z) ⊎ (is_among z ys ≡ true)
among_first z y ys h = by (y == z) refl
  where
    by : (q : Bool) → (y == z) ≡ q → (y ≡ z) ⊎ (is_among z ys ≡ true)
    by true e = inl (grind (arith, nat_tests))
    by false e = inr (ap (λ q. q || is_among z ys) (sym e) ∙ h)

pub among_kept : (xs : List ℕ) (k z : ℕ) → is_among z xs ≡ true → is_among z (insert_key nat_cmp xs k) ≡ true
among_kept [] k z h = absurd (cc)
among_kept (x ∷ xs) k z h = by (among_kept xs k z) (nat_cmp k x)
  where
    at : (is_among z xs ≡ true → is_among z (insert_key nat_cmp xs k) ≡ true) → (q : Bool) → (x == z) ≡ q → is_among z (x ∷ insert_key nat_cmp xs k) ≡ true
    at f true e = ap (λ q. q || is_among z (insert_key nat_cmp xs k)) e
    at f false e = ap (λ q. x == z || q) (f (ap (λ q. q || is_among z xs) (sym e) ∙ h)) ∙ or-true (x == z)

    by : (is_among z xs ≡ true → is_among z (insert_key nat_cmp xs k) ≡ true) → (o : Ordering) → is_among z (match_ordering o (k ∷ x ∷ xs) (x ∷ xs) (x ∷ insert_key nat_cmp xs k)) ≡ true
    by f Less = ap (λ q. k == z || q) h ∙ or-true (k == z)
    by f Equal = h
    by f Greater = at f (x == z) refl

pub among_added : (xs : List ℕ) (k : ℕ) → is_among k (insert_key nat_cmp xs k) ≡ true
among_added [] k = ap (λ q. q || false) (same_eqb k)
among_added (x ∷ xs) k = by (among_added xs k) (nat_cmp k x) refl
  where
    by : is_among k (insert_key nat_cmp xs k) ≡ true → (o : Ordering) → nat_cmp k x ≡ o → is_among k (match_ordering o (k ∷ x ∷ xs) (x ∷ xs) (x ∷ insert_key nat_cmp xs k)) ≡ true
    by f Less e = ap (λ q. q || is_among k (x ∷ xs)) (same_eqb k)
    by f Equal e = ap (λ q. q || is_among k xs) (ap (λ z. x == z) (same_number k x e) ∙ same_eqb x)
    by f Greater e = ap (λ q. x == k || q) f ∙ or-true (x == k)

-- no other number is added
pub among_only : (xs : List ℕ) (k z : ℕ) → is_among z (insert_key nat_cmp xs k) ≡ true → (is_among z xs ≡ true) ⊎ (z ≡ k)
among_only [] k z h = elim (among_first z k [] h) [ inl e ↦ inr (sym e) | inr m ↦ inl m ]
among_only (x ∷ xs) k z h = by (among_only xs k z) (nat_cmp k x) h
  where
    past : is_among z xs ≡ true → is_among z (x ∷ xs) ≡ true
    past m = ap (λ q. x == z || q) m ∙ or-true (x == z)

    here : x ≡ z → is_among z (x ∷ xs) ≡ true
    here e = ap (λ y. (y == z) || is_among z xs) e ∙ ap (λ q. q || is_among z xs) (same_eqb z)

    by : (is_among z (insert_key nat_cmp xs k) ≡ true → (is_among z xs ≡ true) ⊎ (z ≡ k)) → (o : Ordering)
        → is_among z (match_ordering o (k ∷ x ∷ xs) (x ∷ xs) (x ∷ insert_key nat_cmp xs k)) ≡ true → (is_among z (x ∷ xs) ≡ true) ⊎ (z ≡ k)
    by f Less h = elim (among_first z k (x ∷ xs) h) [ inl e ↦ inr (sym e) | inr m ↦ inl m ]
    by f Equal h = inl h
    by f Greater h = elim (among_first z x (insert_key nat_cmp xs k) h) [
      | inl e ↦ inl (here e)
      | inr m ↦ elim (f m) [ inl n ↦ inl (past n) | inr e ↦ inr e ]
    ]

-- the first of a list is among it, and so are those after it
pub among_next : (y : ℕ) (old new : List ℕ) → old ≡ y ∷ new → is_among y old ≡ true
among_next y old new e = ap (is_among y) e ∙ ap (λ q. q || is_among y new) (same_eqb y)

pub among_later : (y z : ℕ) (old new : List ℕ) → old ≡ y ∷ new → is_among z new ≡ true → is_among z old ≡ true
among_later y z old new e m = ap (is_among z) e ∙ ap (λ q. y == z || q) m ∙ or-true (y == z)

-- numbers that are all above
pub all_above : (k : ℕ) (xs : List ℕ) → All (λ q. nat_cmp k q ≡ Less) xs → (z : ℕ) → is_among z xs ≡ true → k < z
all_above k [] a z h = absurd (cc)
all_above k (x ∷ xs) a z h = by (all_above k xs (All-tail (λ q. nat_cmp k q ≡ Less) x xs a) z) (among_first z x xs h)
  where
    by : (is_among z xs ≡ true → k < z) → (x ≡ z) ⊎ (is_among z xs ≡ true) → k < z
    by f (inl e) = subst (λ z. k < z) e (less_number k x (All-head (λ q. nat_cmp k q ≡ Less) x xs a))
    by f (inr m) = f m

-- the first change is noted, and the others are still to be
pub noted_more : (z : ℕ) (c : ValueChange) (rest more : List ValueChange) (old new : List ℕ) → rest ≡ c ∷ more → (is_among z old ≡ true → is_among z new ≡ true) → is_among c.variable new ≡ true
    → (is_changed z rest ≡ true) ⊎ (is_among z old ≡ true) → (is_changed z more ≡ true) ⊎ (is_among z new ≡ true)
noted_more z c rest more old new e k a (inr m) = inr (k m)
noted_more z c rest more old new e k a (inl m) = by (z == c.variable) refl
  where
    by : (q : Bool) → (z == c.variable) ≡ q → (is_changed z more ≡ true) ⊎ (is_among z new ≡ true)
    by true g = inr (let s : z ≡ c.variable = grind (arith, nat_tests) in ap (λ y. is_among y new) s ∙ a)
    by false g = inl (ap (λ q. q || is_changed z more) (sym g) ∙ ap (is_changed z) (sym e) ∙ m)

pub noted_all : (z : ℕ) (rest : List ValueChange) (ys : List ℕ) → rest ≡ [] → (is_changed z rest ≡ true) ⊎ (is_among z ys ≡ true) → is_among z ys ≡ true
noted_all z rest ys e (inl m) = absurd (let n : is_changed z rest ≡ false = ap (is_changed z) e in cc)
noted_all z rest ys e (inr m) = m

-- a suspect that violates no bound is taken out
pub suspect_rest : (ranges : Ranges) (t : AssignmentState) (y : ℕ) (old new : List ℕ) → Suspect ranges t old → old ≡ y ∷ new → is_out deltas ranges t y ≡ false → Suspect ranges t new
suspect_rest ranges t y old new s e n z o = by (among_first z y new (ap (is_among z) (sym e) ∙ s z o))
  where
    by : (y ≡ z) ⊎ (is_among z new ≡ true) → is_among z new ≡ true
    by (inl g) = absurd (let m : is_out deltas ranges t z ≡ false = ap (is_out deltas ranges t) (sym g) ∙ n in cc)
    by (inr m) = m

-- the least suspect that violates a bound is the least variable that does
pub suspect_least : (ranges : Ranges) (t : AssignmentState) (y : ℕ) (old new : List ℕ) → Suspect ranges t old → old ≡ y ∷ new → ((z : ℕ) → is_among z new ≡ true → y < z) → is_out deltas ranges t y ≡ true
    → IsLeast (is_out deltas ranges t) y × SuspectBut ranges t y new
suspect_least ranges t y old new s e a o = (record { holds = o; least = λ z l. at z l (is_out deltas ranges t z) refl }, λ z p. by z (among_first z y new (ap (is_among z) (sym e) ∙ s z p)))
  where
    by : (z : ℕ) → (y ≡ z) ⊎ (is_among z new ≡ true) → (is_among z new ≡ true) ⊎ (z ≡ y)
    by z (inl g) = inr (sym g)
    by z (inr m) = inl m

    none : (z : ℕ) → z < y → (is_among z new ≡ true) ⊎ (z ≡ y) → ⊥
    none z l (inl m) = let k : y < z = a z m in omega arith
    none z l (inr g) = omega arith

    at : (z : ℕ) → z < y → (q : Bool) → is_out deltas ranges t z ≡ q → q ≡ false
    at z l true p = absurd (none z l (by z (among_first z y new (ap (is_among z) (sym e) ∙ s z p))))
    at z l false p = refl

pub suspect_none : (ranges : Ranges) (t : AssignmentState) (ys : List ℕ) → Suspect ranges t ys → ys ≡ [] → (y : ℕ) → is_out deltas ranges t y ≡ false
suspect_none ranges t ys s e y = at (is_out deltas ranges t y) refl
  where
    at : (q : Bool) → is_out deltas ranges t y ≡ q → q ≡ false
    at true p = absurd (let m : is_among y ys ≡ true = s y p in let n : is_among y ys ≡ false = ap (is_among y) e in cc)
    at false p = refl

-- after an exchange each variable that violates a bound did so before, or has changed
pub suspect_exchange : (ranges : Ranges) (t u : AssignmentState) (b x : ℕ) (w : ℕ → Pair Number) (cs : List ValueChange) (old new : List ℕ) → IsPivot numbers t.rows b x → u.rows ≡ exchanged numbers b x t.rows
    → Lead t.point w cs → ((y : ℕ) → u.point y ≡ w y) → is_changed x cs ≡ true → SuspectBut ranges t b old → ((z : ℕ) → is_among z old ≡ true → is_among z new ≡ true)
    → ((z : ℕ) → is_changed z cs ≡ true → is_among z new ≡ true) → Suspect ranges u new
suspect_exchange ranges t u b x w cs old new p r lead point first s kept noted z out = by (is_changed z cs) refl
  where
    basic : is_basic z (exchanged numbers b x t.rows) ≡ true
    basic = ap (is_basic z) (sym r) ∙ (and_parts (is_basic z u.rows) _ out).0

    other : is_changed z cs ≡ false → (q : Bool) → (x == z) ≡ q → q ≡ false
    other e true g = absurd (let i : x ≡ z = grind (arith, nat_tests) in let m : is_changed z cs ≡ true = ap (λ y. is_changed y cs) (sym i) ∙ first in cc)
    other e false g = refl

    before : is_changed z cs ≡ false → (q : Bool) → is_basic z t.rows ≡ q → q ≡ true
    before e true g = refl
    before e false g = absurd (let n : is_basic z (exchanged numbers b x t.rows) ≡ false = nonbasic_after deltas (pivot_of numbers b x (row_of b t.rows).entries) z t.rows g (other e (x == z) refl) in cc)

    violates : is_changed z cs ≡ false → is_out deltas ranges t z ≡ true
    violates e = ap (λ q. q && not (is_within deltas ranges t.point z)) (before e (is_basic z t.rows) refl)
        ∙ subst (λ v. not (not (below deltas v (ranges z).lower || above deltas v (ranges z).upper)) ≡ true) (point z ∙ lead.others z e) (and_parts (is_basic z u.rows) _ out).1

    left : z ≡ b → ⊥
    left e = let n : is_basic b (exchanged numbers b x t.rows) ≡ false = leaving_nonbasic deltas (pivot_of numbers b x (row_of b t.rows).entries) t.rows (apart b x t.rows p.basic p.nonbasic) in
        let m : is_basic b (exchanged numbers b x t.rows) ≡ true = ap (λ y. is_basic y (exchanged numbers b x t.rows)) (sym e) ∙ basic in cc

    stayed : (is_among z old ≡ true) ⊎ (z ≡ b) → is_among z new ≡ true
    stayed (inl m) = kept z m
    stayed (inr e) = absurd (left e)

    by : (q : Bool) → is_changed z cs ≡ q → is_among z new ≡ true
    by true e = noted z e
    by false e = stayed (s z (violates e))
