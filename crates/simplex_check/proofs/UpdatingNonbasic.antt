-- Nonbasic variables that go to their bounds, one after the other.
use Rattle.std.proofs.Common.{◌≡◌, ℕ, ◌+◌, ◌<◌, ◌≤◌, Bool, true, false, not, List, [], ◌∷◌, inl, inr, refl, sym, ◌∙◌, ap, arith, cond, ◌==◌, ◌||◌, ◌&&◌, subst, length, take, Contains}
use Rattle.std.specs.Prelude.{◌⊎◌}
use Rattle.std.proofs.lemmas.Bool.{cases_lt, and_parts, or_parts, not-true}
use Rattle.std.proofs.lemmas.Bool.Decides.{nat_tests}
use Rattle.std.proofs.lemmas.List.{get_or-take, length-take-le}
use Rattle.spec_tableaux.specs.Spaces.{Pair}
use Rattle.spec_tableaux.specs.Rows.{Row, Solves, is_basic}
use Rattle.spec_tableaux.specs.SolvedForms.{IsNonbasic}
use Rattle.spec_tableaux.specs.Ranges.{Range, below, above, is_within, bound_or, value_in_range}
use Rattle.spec_tableaux.specs.LeastVariable.{UpdatesNonbasic, is_out}
use Rattle.spec_tableaux.specs.Numbers.{Number}
use Rattle.spec_tableaux.proofs.Steps.{same_eqb}
use Rattle.spec_tableaux.specs.Points.{deltas, point_in, state_at, Ranges, AssignmentState}
use Rattle.spec_tableaux.specs.Runs.{UpdatesBelow}
use Rattle.simplex_bounds.specs.Held.{ranges_in, RespectsBound}
use Rattle.simplex_bounds.specs.declared.bounds.Bound.{Bound}
use Rattle.simplex_bounds.proofs.Keeping.{within_by}
use Rattle.tableau.specs.Views.{TableauView}
use Rattle.simplex_check.specs.Assignments.{AssignmentView, state_of}
use Rattle.simplex_check.specs.Moves.{keeps}
use Rattle.simplex_check.specs.Suspects.{is_among, Suspect, HaveSuspects, LooksAt, KeepsFirst, AreDue}
use Rattle.simplex_check.proofs.Suspecting.{among_first, among_next}

pub updates_none : (ranges : Ranges) (t : AssignmentState) → Solves deltas t.point t.rows → UpdatesBelow ranges 0 t t
updates_none ranges t s = record { rows = refl; solves = s; nonbasic_updated = λ y h n. absurd (omega arith); others = λ y h n. refl }

-- a nonbasic variable more
pub updates_more : (ranges : Ranges) (n : ℕ) (t u w : AssignmentState) → UpdatesBelow ranges n t u → w.rows ≡ u.rows → Solves deltas w.point w.rows → IsNonbasic u.rows n
    → w.point n ≡ value_in_range deltas (ranges n) (u.point n) → ((z : ℕ) → IsNonbasic u.rows z → (z == n) ≡ false → w.point z ≡ u.point z) → UpdatesBelow ranges (n + 1) t w
updates_more ranges n t u w b r s m g o = record {
  rows = r ∙ b.rows;
  solves = s;
  nonbasic_updated = λ y h k. by y h k (y == n) refl;
  others = λ y h k. o y (within y k) (let z : (y == n) ≡ false = grind (arith, nat_tests) in z) ∙ b.others y (omega arith) k;
}
  where
    within : (y : ℕ) → IsNonbasic t.rows y → IsNonbasic u.rows y
    within y k = subst (λ rs. IsNonbasic rs y) (sym b.rows) k

    by : (y : ℕ) → y < n + 1 → IsNonbasic t.rows y → (q : Bool) → (y == n) ≡ q → w.point y ≡ value_in_range deltas (ranges y) (t.point y)
    by y h k true e =
        let i : n ≡ y = grind (arith, nat_tests) in
        subst (λ y. IsNonbasic t.rows y → w.point y ≡ value_in_range deltas (ranges y) (t.point y)) i
        (λ f. g ∙ ap (value_in_range deltas (ranges n)) (b.others n (omega arith) f)) k
    by y h k false e =
        let l : y < n = grind (arith, nat_tests) in
        o y (within y k) e ∙ b.nonbasic_updated y l k

-- a basic variable more, and the nonbasic ones stay
pub updates_basic : (ranges : Ranges) (n : ℕ) (t u w : AssignmentState) → UpdatesBelow ranges n t u → w.rows ≡ u.rows → Solves deltas w.point w.rows → is_basic n u.rows ≡ true
    → ((z : ℕ) → IsNonbasic u.rows z → (z == n) ≡ false → w.point z ≡ u.point z) → UpdatesBelow ranges (n + 1) t w
updates_basic ranges n t u w b r s m o = record {
  rows = r ∙ b.rows;
  solves = s;
  nonbasic_updated = λ y h k. by y h k (y == n) refl;
  others = λ y h k. o y (within y k) (let z : (y == n) ≡ false = grind (arith, nat_tests) in z) ∙ b.others y (omega arith) k;
}
  where
    within : (y : ℕ) → IsNonbasic t.rows y → IsNonbasic u.rows y
    within y k = subst (λ rs. IsNonbasic rs y) (sym b.rows) k

    by : (y : ℕ) → y < n + 1 → IsNonbasic t.rows y → (q : Bool) → (y == n) ≡ q → w.point y ≡ value_in_range deltas (ranges y) (t.point y)
    by y h k true e =
        let i : y ≡ n = grind (arith, nat_tests) in
        let j : is_basic n u.rows ≡ false = ap (λ z. is_basic z u.rows) (sym i) ∙ ap (is_basic y) b.rows ∙ k in
        absurd (cc)
    by y h k false e =
        let l : y < n = grind (arith, nat_tests) in
        o y (within y k) e ∙ b.nonbasic_updated y l k

-- those up to a later variable need not move
pub updates_until : (ranges : Ranges) (n m : ℕ) (t u : AssignmentState) → n ≤ m → UpdatesBelow ranges n t u → ((z : ℕ) → n ≤ z → z < m → value_in_range deltas (ranges z) (t.point z) ≡ t.point z) → UpdatesBelow ranges m t u
updates_until ranges n m t u le b stay = record {
  rows = b.rows;
  solves = b.solves;
  nonbasic_updated = λ y h k. by y h k (cases_lt y n);
  others = λ y h k. b.others y (omega (arith, le, h)) k;
}
  where
    by : (y : ℕ) → y < m → IsNonbasic t.rows y → (y < n) ⊎ (n ≤ y) → u.point y ≡ value_in_range deltas (ranges y) (t.point y)
    by y h k (inl l) = b.nonbasic_updated y l k
    by y h k (inr g) = b.others y g k ∙ sym (stay y g h)

-- a value within its range stays
updated_within : (range : Range (Pair Number)) (v : Pair Number) → keeps range v ≡ true → value_in_range deltas range v ≡ v
updated_within range v h =
    let parts = or_parts (below deltas v range.lower) (above deltas v range.upper) (not-true _ h) in
    λ i. cond (parts.0 i) (bound_or v range.lower) (cond (parts.1 i) (bound_or v range.upper) v)

-- what is not due keeps its bounds
within_rest : (n : ℕ) (held : List Bound) (vs : List (Pair Number)) (due : List ℕ) → KeepsFirst n held vs → AreDue n held due → (z : ℕ) → is_among z due ≡ false → keeps (ranges_in held z) (point_in vs z) ≡ true
within_rest n held vs due k a z e = within_by held (point_in vs) z of
  where
    of : (b : Bound) → Contains held b → b.variable ≡ z → RespectsBound (point_in vs) b
    of b (i, lt, g) f = by (cases_lt i n)
      where
        by : (i < n) ⊎ (n ≤ i) → RespectsBound (point_in vs) b
        by (inl l) = k.each b (i, (let m : length (take n held) ≡ n = length-take-le n held k.few in omega (arith, m, l)), get_or-take n held i b l ∙ g)
        by (inr l) = absurd (let m : is_among z due ≡ true = ap (λ y. is_among y due) (sym f) ∙ ap (λ (c : Bound). is_among c.variable due) (sym g) ∙ a i l lt b in cc)

-- On the way: nonbasic variables below n went to the bounds that they violated, those from n on are due or keep theirs, and a basic
-- variable that violates a bound is a suspect or due.
pub record UpdatingNonbasic (ranges : Ranges) (t u : AssignmentState) (n : ℕ) (due suspects : List ℕ) : Type 0 where
  pub updates_nonbasic : UpdatesBelow ranges n t u
  pub above : (z : ℕ) → is_among z due ≡ true → n ≤ z
  pub rest : (z : ℕ) → n ≤ z → is_among z due ≡ false → keeps (ranges z) (t.point z) ≡ true
  pub suspect : (z : ℕ) → is_out deltas ranges u z ≡ true → (is_among z suspects ≡ true) ⊎ (is_among z due ≡ true)

pub updating_begins : (held : List Bound) (n : ℕ) (rs : List (Row Number)) (vs : List (Pair Number)) (due : List ℕ) → Solves deltas (point_in vs) rs → KeepsFirst n held vs → AreDue n held due
    → UpdatingNonbasic (ranges_in held) (state_at rs vs) (state_at rs vs) 0 due []
updating_begins held n rs vs due s k a = record {
  updates_nonbasic = updates_none (ranges_in held) (state_at rs vs) s;
  above = λ z h. omega (arith);
  rest = λ z l e. within_rest n held vs due k a z e;
  suspect = λ z o. by z o (is_among z due) refl;
}
  where
    by : (z : ℕ) → is_out deltas (ranges_in held) (state_at rs vs) z ≡ true → (q : Bool) → is_among z due ≡ q → (is_among z [] ≡ true) ⊎ (is_among z due ≡ true)
    by z o true e = inr e
    by z o false e = absurd (
        let w : is_within deltas (ranges_in held) (point_in vs) z ≡ true = within_rest n held vs due k a z e in
        let m : not (is_within deltas (ranges_in held) (point_in vs) z) ≡ true = (and_parts (is_basic z rs) (not (is_within deltas (ranges_in held) (point_in vs) z)) o).1 in
        let f : not true ≡ true = ap not (sym w) ∙ m in
        cc
        )

-- the least that is due comes next
pub updating_next : (ranges : Ranges) (t u : AssignmentState) (n y : ℕ) (old new suspects : List ℕ) → UpdatingNonbasic ranges t u n old suspects → old ≡ y ∷ new → ((z : ℕ) → is_among z new ≡ true → y < z)
    → UpdatesBelow ranges y t u
updating_next ranges t u n y old new suspects g e a =
    updates_until ranges n y t u (g.above y (among_next y old new e)) g.updates_nonbasic
    (λ z k l. updated_within (ranges z) (t.point z) (g.rest z k (by z l (is_among z old) refl)))
  where
    by : (z : ℕ) → z < y → (q : Bool) → is_among z old ≡ q → q ≡ false
    by z l true m = absurd (elim (among_first z y new (ap (is_among z) (sym e) ∙ m)) [ inl f ↦ omega (arith, f, l) | inr k ↦ (let h : y < z = a z k in omega (arith, h, l)) ])
    by z l false m = refl

-- the least that is due was looked at
pub updating_more : (ranges : Ranges) (t u w : AssignmentState) (n y : ℕ) (old new suspects more : List ℕ) → UpdatingNonbasic ranges t u n old suspects → old ≡ y ∷ new → ((z : ℕ) → is_among z new ≡ true → y < z)
    → w.rows ≡ u.rows → Solves deltas w.point w.rows → LooksAt ranges y u w suspects more → UpdatingNonbasic ranges t w (y + 1) new more
updating_more ranges t u w n y old new suspects more g e a r s x = record {
  updates_nonbasic = at (is_basic y u.rows) refl;
  above = λ z h. (let l : y < z = a z h in omega (arith, l));
  rest = λ z l m. g.rest z (let k : n ≤ y = low in omega (arith, k, l)) (ap (is_among z) e ∙ (λ i. apart z l i || m i));
  suspect = λ z o. elim (x.noted z o) [
    | inl m ↦ inl m
    | inr m ↦ elim (g.suspect z m.0) [
      | inl k ↦ inl (x.kept z k)
      | inr k ↦ inr (elim (among_first z y new (ap (is_among z) (sym e) ∙ k)) [
        | inl f ↦ absurd (let h : (z == y) ≡ true = ap (λ v. v == y) (sym f) ∙ same_eqb y in let o : (z == y) ≡ false = m.1 in cc)
        | inr h ↦ h
      ])
    ]
  ];
}
  where
    low : n ≤ y
    low = g.above y (among_next y old new e)

    below : UpdatesBelow ranges y t u
    below = updating_next ranges t u n y old new suspects g e a

    apart : (z : ℕ) → y + 1 ≤ z → (y == z) ≡ false
    apart z l = grind (arith, nat_tests)

    at : (q : Bool) → is_basic y u.rows ≡ q → UpdatesBelow ranges (y + 1) t w
    at true b = updates_basic ranges y t u w below r s b x.others
    at false b = updates_more ranges y t u w below r s b (x.nonbasic_updated b) x.others

-- all that were due were looked at
pub updating_ends : (ranges : Ranges) (t u : AssignmentState) (n : ℕ) (due suspects : List ℕ) → UpdatingNonbasic ranges t u n due suspects → due ≡ [] → UpdatesNonbasic deltas ranges t u × Suspect ranges u suspects
updating_ends ranges t u n due suspects g e = (
  record { rows = g.updates_nonbasic.rows; solves = g.updates_nonbasic.solves; nonbasic = λ y k. by y k (cases_lt y n) },
  λ z o. elim (g.suspect z o) [ inl m ↦ m | inr m ↦ absurd (let f : is_among z due ≡ false = ap (is_among z) e in cc) ],
)
  where
    by : (y : ℕ) → IsNonbasic t.rows y → (y < n) ⊎ (n ≤ y) → u.point y ≡ value_in_range deltas (ranges y) (t.point y)
    by y k (inl l) = g.updates_nonbasic.nonbasic_updated y l k
    by y k (inr l) = g.updates_nonbasic.others y l k ∙ sym (updated_within (ranges y) (t.point y) (g.rest y l (ap (is_among y) e)))

-- a basic variable is looked at
pub looks_basic : (ranges : Ranges) (y : ℕ) (t : AssignmentState) (old new : List ℕ) → is_basic y t.rows ≡ true → ((z : ℕ) → is_among z old ≡ true → is_among z new ≡ true) → is_among y new ≡ true → LooksAt ranges y t t old new
looks_basic ranges y t old new b kept added = record {
  nonbasic_updated = λ n. absurd (cc);
  others = λ z n e. refl;
  kept = kept;
  noted = λ z o. by z o (z == y) refl;
}
  where
    by : (z : ℕ) → is_out deltas ranges t z ≡ true → (q : Bool) → (z == y) ≡ q → (is_among z new ≡ true) ⊎ ((is_out deltas ranges t z ≡ true) × ((z == y) ≡ false))
    by z o true e = inl (let s : z ≡ y = grind (arith, nat_tests) in ap (λ x. is_among x new) s ∙ added)
    by z o false e = inr (o, e)

-- a nonbasic one is, where variables whose value changed are suspects
pub looks_nonbasic : (ranges : Ranges) (y : ℕ) (b c : AssignmentView) (old new : List ℕ) → is_basic y b.tableau.rows ≡ false → c.tableau ≡ b.tableau → point_in c.values y ≡ value_in_range deltas (ranges y) (point_in b.values y)
    → ((z : ℕ) → IsNonbasic b.tableau.rows z → (z == y) ≡ false → point_in c.values z ≡ point_in b.values z) → HaveSuspects b.values c.values old new → LooksAt ranges y (state_of b) (state_of c) old new
looks_nonbasic ranges y b c old new free same nonbasic_updated others have = record {
  nonbasic_updated = λ n. nonbasic_updated;
  others = others;
  kept = have.kept;
  noted = λ z o. elim (have.noted z) [ inl m ↦ inl m | inr e ↦ inr (before z o e, apart z o (z == y) refl) ];
}
  where
    rows : c.tableau.rows ≡ b.tableau.rows
    rows = ap (λ (t : TableauView). t.rows) same

    before : (z : ℕ) → is_out deltas ranges (state_of c) z ≡ true → point_in c.values z ≡ point_in b.values z → is_out deltas ranges (state_of b) z ≡ true
    before z o e =
        let p = and_parts (is_basic z c.tableau.rows) (not (is_within deltas ranges (point_in c.values) z)) o in
        let q : is_basic z b.tableau.rows ≡ true = ap (is_basic z) (sym rows) ∙ p.0 in
        let w : not (is_within deltas ranges (point_in b.values) z) ≡ true = subst (λ v. not (keeps (ranges z) v) ≡ true) e p.1 in
        λ i. (q ∙ refl) i && w i

    apart : (z : ℕ) → is_out deltas ranges (state_of c) z ≡ true → (q : Bool) → (z == y) ≡ q → q ≡ false
    apart z o true e = absurd (
        let s : z ≡ y = grind (arith, nat_tests) in
        let p = and_parts (is_basic z c.tableau.rows) (not (is_within deltas ranges (point_in c.values) z)) o in
        let f : is_basic z c.tableau.rows ≡ false = ap (is_basic z) rows ∙ ap (λ x. is_basic x b.tableau.rows) s ∙ free in
        cc
        )
    apart z o false e = refl
