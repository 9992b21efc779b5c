-- What sums of distances from bounds are.
use Rattle.std.proofs.Common.{◌≡◌, ◌↔◌, ℕ, Bool, true, false, not, cond, ◌==◌, List, [], ◌∷◌, Option, Some, None, refl, sym, ◌∙◌, ap, subst, ◌||◌, arith}
use Rattle.std.proofs.lemmas.Bool.Decides.{nat_tests}
use Rattle.std.proofs.lemmas.Bool.{and_parts, not-true}
use Rattle.spec_numbers.specs.Fractions.{opposite}
use Rattle.spec_tableaux.specs.Fields.{is_positive}
use Rattle.spec_tableaux.specs.Spaces.{Pair, space_difference, as_space}
use Rattle.spec_tableaux.specs.Rows.{Entry, Row, Holds, Solves, sum_of, row_of, is_basic}
use Rattle.spec_tableaux.specs.SolvedForms.{IsTidy, IsSolved}
use Rattle.spec_tableaux.specs.Ranges.{AreStopped, stopping_bound, is_within, is_crossed, below, above, crosses}
use Rattle.spec_tableaux.specs.LeastVariable.{State, IsNonbasicFeasible, RuleSays, stuck, goes_up}
use Rattle.spec_tableaux.specs.Numbers.{Number, numbers, fractions}
use Rattle.spec_tableaux.proofs.Numbers.{numbers_are_ordered_field}
use Rattle.spec_tableaux.proofs.Signs.{opposite_twice}
use Rattle.spec_tableaux.proofs.Sums.{opposite_scale}
use Rattle.spec_tableaux.proofs.Explanations.{row_explains, stuck_is_stopped}
use Rattle.spec_tableaux.proofs.SolvedForms.{tidy_row}
use Rattle.spec_tableaux.proofs.Exchanges.{row_holds}
use Rattle.spec_tableaux.proofs.PairSolutions.{pair_parts, parts_pair}
use Rattle.simplex_bounds.specs.declared.bounds.Bound.{Bound}
use Rattle.simplex_bounds.specs.declared.bounds.Side.TheVariants.{Lower, Upper}
use Rattle.simplex_bounds.specs.Deltas.{pair_of}
use Rattle.spec_tableaux.specs.Points.{deltas}
use Rattle.simplex_bounds.specs.Held.{strongest, value_in, range_in, ranges_in}
use Rattle.simplex_atoms.specs.Limits.{side_by}
use Rattle.simplex_explain.specs.Stops.{stop_of, AreAllStopped, value_of, all_beyond}
use Rattle.spec_causes.specs.Reasons.{directed, with_basic, unit_entries}
use Rattle.simplex_check.proofs.Points.{deltas_are_space, deltas_are_ordered}

-- space_difference one, by which values are negated
abbrev minus_one : Number
minus_one = numbers.opposite numbers.one

-- the value, or space_difference it where up is false
abbrev turned : Bool → Pair Number → Pair Number
turned true x = x
turned false x = deltas.scale minus_one x

twice : (x : Pair Number) → deltas.scale minus_one (deltas.scale minus_one x) ≡ x
twice x = sym (opposite_scale deltas deltas_are_space minus_one x) ∙ ap (λ k. deltas.scale k x) (opposite_twice numbers numbers_are_ordered_field numbers.one) ∙ deltas_are_space.one_scale x

minus_turned : (x y : Pair Number) → deltas.scale minus_one (space_difference deltas x y) ≡ space_difference deltas y x
minus_turned x y = deltas_are_space.scale_plus minus_one x _ ∙ ap (deltas.plus (deltas.scale minus_one x)) (twice y) ∙ deltas_are_space.plus_commutative _ y

turned_plus : (up : Bool) (x y : Pair Number) → deltas.plus (turned up x) (turned up y) ≡ turned up (deltas.plus x y)
turned_plus true x y = refl
turned_plus false x y = sym (deltas_are_space.scale_plus minus_one x y)

turned_origin : (up : Bool) → deltas.origin ≡ turned up deltas.origin
turned_origin true = refl
turned_origin false = sym (deltas_are_space.scale_origin minus_one)

directed_scale : (up : Bool) (c : Number) (x : Pair Number) → deltas.scale (directed up c) x ≡ turned up (deltas.scale c x)
directed_scale true c x = refl
directed_scale false c x = opposite_scale deltas deltas_are_space c x

-- the stop of an entry is at the bound that stops its variable
stop_bound : (held : List Bound) (up : Bool) (e : Entry Number) → value_in (stop_of held up e) ≡ stopping_bound deltas (ranges_in held e.variable) up e.coefficient
stop_bound held up e = by (is_positive numbers e.coefficient) up
  where
    by : (p up : Bool) → value_in (strongest (side_by (cond p up (not up))) e.variable held)
        ≡ cond p (cond up (range_in held e.variable).upper (range_in held e.variable).lower) (cond up (range_in held e.variable).lower (range_in held e.variable).upper)
    by true true = refl
    by true false = refl
    by false true = refl
    by false false = refl

-- A bound, and its value.
record IsAt (o : Option Bound) (x : Pair Number) : Type 0 where
  bound : Bound
  is : o ≡ Some bound
  value : value_of o ≡ x

is_at : (o : Option Bound) (x : Pair Number) → value_in o ≡ Some x → IsAt o x
is_at None x e = absurd (cc)
is_at (Some b) x e = record { bound = b; is = refl; value = same _ _ e }
  where
    same : (p q : Pair Number) → (let o : Option (Pair Number) = Some p in o) ≡ Some q → p ≡ q
    same p q e = cc

-- the entries of a tidy list are stopped, and what they sum up to
are_all_stopped : (held : List Bound) (up : Bool) (v : ℕ → Pair Number) (from : ℕ) (es : List (Entry Number)) → AreStopped deltas (ranges_in held) v up es → IsTidy numbers from es → AreAllStopped held up es
are_all_stopped held up v from [] s t = tt
are_all_stopped held up v from (e ∷ es) s t =
    let at = is_at (stop_of held up e) (v e.variable) (stop_bound held up e ∙ s.0) in
    (record { entry = t.1; bound = at.bound; is = at.is }, are_all_stopped held up v _ es s.1 t.2)

all_beyond_is : (held : List Bound) (up : Bool) (v q : ℕ → Pair Number) (es : List (Entry Number)) → AreStopped deltas (ranges_in held) v up es
    → all_beyond held up q es ≡ turned up (sum_of deltas (λ y. space_difference deltas (q y) (v y)) es)
all_beyond_is held up v q [] s = turned_origin up
all_beyond_is held up v q (e ∷ es) s =
    let at = is_at (stop_of held up e) (v e.variable) (stop_bound held up e ∙ s.0) in
    let first = ap (λ x. deltas.scale (directed up e.coefficient) (space_difference deltas (q e.variable) x)) at.value ∙ directed_scale up e.coefficient (space_difference deltas (q e.variable) (v e.variable)) in
    (λ i. deltas.plus (first i) (all_beyond_is held up v q es s.1 i))
    ∙ turned_plus up (deltas.scale e.coefficient (space_difference deltas (q e.variable) (v e.variable))) (sum_of deltas (λ y. space_difference deltas (q y) (v y)) es)

-- the basic variable, with space_difference one
basic_beyond : (up : Bool) (x g : Pair Number) → deltas.scale (directed up minus_one) (space_difference deltas x g) ≡ turned up (space_difference deltas g x)
basic_beyond up x g = directed_scale up minus_one (space_difference deltas x g) ∙ ap (turned up) (minus_turned x g)

row_beyond : (held : List Bound) (up : Bool) (v q : ℕ → Pair Number) (r : Row Number) → AreStopped deltas (ranges_in held) v up r.entries → Holds deltas q r → Holds deltas v r
    → all_beyond held up q (with_basic r.basic r.entries) ≡ turned up (space_difference deltas (value_of (stop_of held up (record { variable = r.basic; coefficient = minus_one }))) (v r.basic))
row_beyond held up v q r s hq hv =
    let g = value_of (stop_of held up (record { variable = r.basic; coefficient = minus_one })) in
    (λ i. deltas.plus (basic_beyond up (q r.basic) g i) (all_beyond_is held up v q r.entries s i))
    ∙ turned_plus up (space_difference deltas g (q r.basic)) (sum_of deltas (λ y. space_difference deltas (q y) (v y)) r.entries) ∙ ap (turned up) (row_explains deltas deltas_are_space q v r g hq hv)

-- a greater value space_difference a lesser one is above the origin
above_origin : (x y : Pair Number) → deltas.less x y ≡ true → deltas.less deltas.origin (space_difference deltas y x) ≡ true
above_origin x y h =
    (λ i. deltas.less (sym (none x) i) (deltas_are_space.plus_commutative y (deltas.scale minus_one x) i)) ∙ deltas_are_ordered.less_plus (deltas.scale minus_one x) x y ∙ h
  where
    none : (x : Pair Number) → deltas.plus (deltas.scale minus_one x) x ≡ deltas.origin
    none x = ap (deltas.plus (deltas.scale minus_one x)) (sym (deltas_are_space.one_scale x)) ∙ sym (deltas_are_space.sum_scale minus_one numbers.one x) ∙ ap (λ t. deltas.scale t x) (numbers_are_ordered_field.sum_opposite numbers.one) ∙ deltas_are_space.zero_scale x

minus_one_below : is_positive numbers minus_one ≡ false
unfolding numbers fractions opposite
minus_one_below = refl

minus_one_not_zero : numbers.is_zero minus_one ≡ false
unfolding numbers fractions opposite
minus_one_not_zero = refl

-- Entries whose variables are stopped, and the distances from the stops sum up to one value above the origin.
pub record Contradicts (held : List Bound) (up : Bool) (listed : List (Row Number)) (es : List (Entry Number)) : Type 0 where
  pub stopped : AreAllStopped held up es
  pub total : Pair Number
  pub above : deltas.less deltas.origin total ≡ true
  pub same : (q : ℕ → Pair Number) → Solves deltas q listed → all_beyond held up q es ≡ total

-- The bound that a basic variable violates.
record IsOut (held : List Bound) (up : Bool) (b : ℕ) (x : Pair Number) : Type 0 where
  bound : Bound
  is : stop_of held up (record { variable = b; coefficient = minus_one }) ≡ Some bound
  above : deltas.less deltas.origin (turned up (space_difference deltas (value_of (stop_of held up (record { variable = b; coefficient = minus_one }))) x)) ≡ true

basic_stop : (held : List Bound) (up : Bool) (b : ℕ) → stop_of held up (record { variable = b; coefficient = minus_one }) ≡ strongest (side_by (not up)) b held
basic_stop held up b = ap (λ p. strongest (side_by (cond p up (not up))) b held) minus_one_below

out_below : (o : Option Bound) (x : Pair Number) → below deltas x (value_in o) ≡ true → (bound : Bound) × (o ≡ Some bound) × (deltas.less deltas.origin (space_difference deltas (value_of o) x) ≡ true)
out_below None x h = absurd (cc)
out_below (Some b) x h = (b, refl, above_origin x (pair_of b.value) h)

out_above : (o : Option Bound) (x : Pair Number) → above deltas x (value_in o) ≡ true → (bound : Bound) × (o ≡ Some bound) × (deltas.less deltas.origin (turned false (space_difference deltas (value_of o) x)) ≡ true)
out_above None x h = absurd (cc)
out_above (Some b) x h = (b, refl, ap (deltas.less deltas.origin) (minus_turned (pair_of b.value) x) ∙ above_origin (pair_of b.value) x h)

out_by : (held : List Bound) (up : Bool) (b : ℕ) (x : Pair Number)
    → ((bound : Bound) × (strongest (side_by (not up)) b held ≡ Some bound) × (deltas.less deltas.origin (turned up (space_difference deltas (value_of (strongest (side_by (not up)) b held)) x)) ≡ true)) → IsOut held up b x
out_by held up b x h = record {
  bound = h.0;
  is = basic_stop held up b ∙ h.1;
  above = ap (λ o. deltas.less deltas.origin (turned up (space_difference deltas (value_of o) x))) (basic_stop held up b) ∙ h.2;
}

is_out_by : (held : List Bound) (b : ℕ) (x : Pair Number) (up : Bool) → below deltas x (range_in held b).lower ≡ up → not (below deltas x (range_in held b).lower || above deltas x (range_in held b).upper) ≡ false → IsOut held up b x
is_out_by held b x true l h = out_by held true b x (out_below (strongest Lower b held) x l)
is_out_by held b x false l h = out_by held false b x (out_above (strongest Upper b held) x (only (below deltas x (range_in held b).lower) (above deltas x (range_in held b).upper) l h))
  where
    only : (p q : Bool) → p ≡ false → not (p || q) ≡ false → q ≡ true
    only true q l h = absurd (cc)
    only false true l h = refl
    only false false l h = absurd (cc)

-- of a row that holds: where its basic variable is out, and its other variables are stopped
row_contradicts : (held : List Bound) (up : Bool) (listed : List (Row Number)) (v : ℕ → Pair Number) (r : Row Number) → IsOut held up r.basic (v r.basic)
    → AreStopped deltas (ranges_in held) v up r.entries → IsTidy numbers 0 r.entries → Holds deltas v r → ((q : ℕ → Pair Number) → Solves deltas q listed → Holds deltas q r)
    → Contradicts held up listed (with_basic r.basic r.entries)
row_contradicts held up listed v r out s t hv all = record {
  stopped = (record { entry = minus_one_not_zero; bound = out.bound; is = out.is }, are_all_stopped held up v 0 r.entries s t);
  total = turned up (space_difference deltas (value_of (stop_of held up (record { variable = r.basic; coefficient = minus_one }))) (v r.basic));
  above = out.above;
  same = λ q h. row_beyond held up v q r s (all q h) hv;
}

-- the rows of now have the solutions of those that were added, in pairs too
pub pairs_solve : (rows listed : List (Row Number)) → ((v : ℕ → Number) → Solves (as_space numbers) v rows ↔ Solves (as_space numbers) v listed) → (q : ℕ → Pair Number) → Solves deltas q listed → Solves deltas q rows
pairs_solve rows listed same q h =
    let parts = pair_parts numbers q listed h in
    parts_pair numbers q rows ((same (λ y. (q y).base)).1 parts.0) ((same (λ y. (q y).tilt)).1 parts.1)

row_named : (b : ℕ) (rs : List (Row Number)) → (row_of b rs).basic ≡ b
row_named b [] = refl
row_named b (r ∷ rs) = by (r.basic == b) refl (row_named b rs)
  where
    by : (p : Bool) → (r.basic == b) ≡ p → (row_of b rs).basic ≡ b → (cond p r (row_of b rs)).basic ≡ b
    by true e h = grind (arith, nat_tests)
    by false e h = h

named_holds : (q : ℕ → Pair Number) (b : ℕ) (rs : List (Row Number)) → is_basic b rs ≡ true → Solves deltas q rs → Holds deltas q (record { basic = b; entries = (row_of b rs).entries })
named_holds q b rs i h = record { is = ap q (sym (row_named b rs)) ∙ (row_holds deltas q b rs i h).is }

-- where the rule is stuck
pub stuck_contradicts : (held : List Bound) (listed : List (Row Number)) (t : State Number (Pair Number)) (b : ℕ) → IsSolved numbers t.rows
    → ((v : ℕ → Number) → Solves (as_space numbers) v t.rows ↔ Solves (as_space numbers) v listed) → IsNonbasicFeasible deltas (ranges_in held) t → RuleSays deltas (ranges_in held) t (stuck b)
    → Contradicts held (goes_up deltas (ranges_in held) t b) listed (with_basic b (row_of b t.rows).entries)
stuck_contradicts held listed t b solved same nonbasic_updated says =
    let up = goes_up deltas (ranges_in held) t b in
    let out = and_parts (is_basic b t.rows) (not (is_within deltas (ranges_in held) t.point b)) says.1.holds in
    row_contradicts held up listed t.point (record { basic = b; entries = (row_of b t.rows).entries })
    (is_out_by held b (t.point b) up refl (not-true _ out.1))
    (stuck_is_stopped deltas deltas_are_space deltas_are_ordered (ranges_in held) t b solved nonbasic_updated says) (tidy_row deltas b t.rows solved.tidy)
    (named_holds t.point b t.rows out.0 nonbasic_updated.solves) (λ q h. named_holds q b t.rows out.0 (pairs_solve t.rows listed same q h))

pub one_above : is_positive numbers numbers.one ≡ true
unfolding numbers fractions opposite
one_above = refl

one_not_zero : numbers.is_zero numbers.one ≡ false
unfolding numbers fractions opposite
one_not_zero = refl

unit_holds : (q : ℕ → Pair Number) (y : ℕ) → Holds deltas q (record { basic = y; entries = unit_entries y })
unit_holds q y = record { is = sym (deltas_are_space.plus_commutative (deltas.scale numbers.one (q y)) deltas.origin ∙ deltas_are_space.plus_origin _ ∙ deltas_are_space.one_scale (q y)) }

crossing_by : (held : List Bound) (listed : List (Row Number)) (y : ℕ) (u : Option Bound) → strongest Upper y held ≡ u → crosses deltas (value_in (strongest Lower y held)) (value_in u) ≡ true
    → Contradicts held true listed (with_basic y (unit_entries y))
crossing_by held listed y None e h = absurd (none (value_in (strongest Lower y held)) h)
  where
    none : (o : Option (Pair Number)) → crosses deltas o None ≡ true → ⊥
    none None h = cc
    none (Some l) h = cc
crossing_by held listed y (Some b) e h =
    let x = pair_of b.value in
    row_contradicts held true listed (λ _. x) (record { basic = y; entries = unit_entries y }) (out_by held true y x (out_below (strongest Lower y held) x (lower (value_in (strongest Lower y held)) h)))
    (ap (λ p. cond p (range_in held y).upper (range_in held y).lower) one_above ∙ ap value_in e, tt) (omega arith, one_not_zero, tt) (unit_holds (λ _. x) y) (λ q g. unit_holds q y)
  where
    lower : (o : Option (Pair Number)) → crosses deltas o (Some (pair_of b.value)) ≡ true → below deltas (pair_of b.value) o ≡ true
    lower None h = h
    lower (Some l) h = h

-- where bounds cross
pub crossing_contradicts : (held : List Bound) (listed : List (Row Number)) (y : ℕ) → is_crossed deltas (ranges_in held) y ≡ true → Contradicts held true listed (with_basic y (unit_entries y))
crossing_contradicts held listed y h = crossing_by held listed y (strongest Upper y held) refl h

-- the same by the words of the code
pub row_contradiction : (held : List Bound) (listed : List (Row Number)) (t : State Number (Pair Number)) (b : ℕ) (up : Bool) (es : List (Entry Number)) → up ≡ goes_up deltas (ranges_in held) t b → es ≡ (row_of b t.rows).entries
    → IsSolved numbers t.rows → ((v : ℕ → Number) → Solves (as_space numbers) v t.rows ↔ Solves (as_space numbers) v listed) → IsNonbasicFeasible deltas (ranges_in held) t → RuleSays deltas (ranges_in held) t (stuck b)
    → Contradicts held up listed (with_basic b es)
row_contradiction held listed t b up es e k solved same nonbasic_updated says =
    subst (λ u. Contradicts held u listed (with_basic b es)) (sym e) (subst (λ r. Contradicts held (goes_up deltas (ranges_in held) t b) listed (with_basic b r)) (sym k) (stuck_contradicts held listed t b solved same nonbasic_updated says))

pub unit_contradiction : (held : List Bound) (listed : List (Row Number)) (y : ℕ) (one : Number) → one ≡ numbers.one → is_crossed deltas (ranges_in held) y ≡ true
    → Contradicts held true listed (with_basic y (record { variable = y; coefficient = one } ∷ []))
unit_contradiction held listed y one e h = subst (λ (c : Number). Contradicts held true listed (with_basic y (record { variable = y; coefficient = c } ∷ []))) (sym e) (crossing_contradicts held listed y h)
