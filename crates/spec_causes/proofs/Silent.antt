-- Where no atom among terms compares numbers, simplex is on nothing, and nothing stops it.
use Rattle.std.proofs.Common.{◌≡◌, ℕ, Bool, true, false, List, [], ◌∷◌, ◌++◌, Contains, Option, Some, None, inl, inr, refl, sym, ap, ◌∙◌, subst}
use Rattle.std.specs.Prelude.{◌&&◌, ◌||◌, not, cond, Err}
use Rattle.std.proofs.lemmas.Bool.{false≢true, cases_lt}
use Rattle.std.proofs.lemmas.List.Elements.{All-contains}
use Rattle.spec_text.specs.Answers.{◌>>=◌}
use Rattle.spec_numbers.specs.Fractions.{gcd, plus, times}
use Rattle.spec_numbers.specs.Bounds.{Overflow, is_small, fits, sum_fits, added, multiplied}
use Rattle.spec_sorts.specs.Terms.{Less, AtMost, Term, app, nil, cons}
use Rattle.spec_sorts.specs.Literals.{Literal}
use Rattle.spec_arithmetic.specs.Forms.{Form}
use Rattle.spec_tableaux.specs.Spaces.{Pair}
use Rattle.spec_tableaux.specs.Rows.{Entry, Row, is_basic}
use Rattle.spec_tableaux.specs.Ranges.{below, above, crosses, bound_or, value_in_range, is_within, is_crossed}
use Rattle.spec_tableaux.specs.LeastVariable.{MakesPivots, RuleSays, exchange}
use Rattle.spec_tableaux.specs.Numbers.{Number, numbers, fractions}
use Rattle.spec_tableaux.specs.Deltas.{delta_evaluated}
use Rattle.spec_tableaux.specs.Points.{deltas, delta_in, Ranges, AssignmentState, point_in}
use Rattle.spec_tableaux.specs.BoundsOverflows.{updates_nonbasic, enters, CheckOverflows, difference, quotient, move, rows}
use Rattle.spec_tableaux.specs.Runs.{UpdatesBelow, Ran}
use Rattle.spec_tableaux.specs.Halves.{OverflowsLower, OverflowsUpper, OverflowsRange, values}
use Rattle.spec_tableaux.specs.Halves as halves
use Rattle.spec_simplex.specs.Constraints.{Constraint, where_true, constraint_by}
use Rattle.spec_arithmetic.specs.Contradictions.{are_numbers}
use Rattle.spec_causes.specs.TermTableau.{TermTableau, state_in, moved_to}
use Rattle.spec_causes.specs.Shared.{AreSharedValues, ShareNothing}
use Rattle.spec_causes.specs.Bounds.{Side, lower, upper, bound_on, AreBounds}
use Rattle.spec_causes.specs.Reached.{IsFormAmong, IsReached, beginning, naming, summing, idling, checking, IsStoppedAt, between, updating_nonbasic, exchanging}
use Rattle.spec_causes.specs.Reasons.{Conflicts, crossing, sticking}
use Rattle.spec_causes.specs.Causes.{IsHalfAbove, IsHalfBelow, IsEpsilon, OverflowsAt, forming, bounding, adding_row, explaining, valuing, finding, evaluating, evaluating_shared, AreSilent}
use Rattle.spec_causes.specs.Causes as causes

-- a test fails for one constraint and holds for another
apart : (b : Bool) (c d x : Constraint) → where_true b c ≡ None → where_true b d ≡ Some x → ⊥
apart true c d x e h = cc
apart false c d x e h = cc

-- what a negated atom says, it says in another way as it is
says_neither : (positive : Bool) (t : Term) (x : Constraint) → constraint_by true t ≡ None → constraint_by positive t ≡ Some x → ⊥
unfolding constraint_by
says_neither false (app Less (cons s (cons t nil))) x e h = apart (are_numbers s t) _ _ x e h
says_neither false (app AtMost (cons s (cons t nil))) x e h = apart (are_numbers s t) _ _ x e h
says_neither true t x e h = cc
says_neither false t x e h = cc

-- rows and values of nothing
pub record IsEmpty (s : TermTableau) : Type 0 where
  pub rows : s.rows ≡ []
  pub values : (y : ℕ) → point_in s.values y ≡ deltas.origin

-- a range without bounds
abbrev IsOpen : Ranges → Type 0
IsOpen ranges = (y : ℕ) → ((ranges y).lower ≡ None) × ((ranges y).upper ≡ None)

-- a value is within such a range
kept : (ranges : Ranges) → IsOpen ranges → (v : ℕ → Pair Number) (y : ℕ) → is_within deltas ranges v y ≡ true
kept ranges none v y = (λ i. not (below deltas (v y) ((none y).0 i) || above deltas (v y) ((none y).1 i)))

-- and its bounds do not cross
uncrossed : (ranges : Ranges) → IsOpen ranges → (y : ℕ) → is_crossed deltas ranges y ≡ false
uncrossed ranges none y = λ i. crosses deltas ((none y).0 i) ((none y).1 i)

-- a value stays
stays : (ranges : Ranges) → IsOpen ranges → (y : ℕ) (x : Pair Number) → value_in_range deltas (ranges y) x ≡ x
stays ranges none y x =
    λ i. cond (below deltas x ((none y).0 i)) (bound_or x ((none y).0 i)) (cond (above deltas x ((none y).1 i)) (bound_or x ((none y).1 i)) x)

-- no variable is basic
module _ (rs : List (Row Number)) (none : rs ≡ []) where
  no_basic : (y : ℕ) → is_basic y rs ≡ false
  no_basic y = ap (is_basic y) none

module _ (ts : List Term) (silent : AreSilent ts) where
  no_form : (f : Form) → IsFormAmong ts f → ⊥
  no_form f h = says_neither true h.atom h.constraint (silent h.atom h.there) h.says

  -- no literal bounds a variable
  open_ranges : (s : TermTableau) (ranges : Ranges) → AreBounds ts s ranges → IsOpen ranges
  open_ranges s ranges h y = (unbounded lower, unbounded upper)
    where
      unbounded : (side : Side) → bound_on side (ranges y) ≡ None
      unbounded side = go (bound_on side (ranges y)) refl
        where
          go : (b : Option (Pair Number)) → bound_on side (ranges y) ≡ b → b ≡ None
          go None e = refl
          go (Some b) e =
              let l = h.stated y side b e in
              absurd (says_neither l.0.positive l.0.atom l.2.constraint
              (silent l.0.atom (All-contains (λ (l : Literal). Contains ts l.atom) h.literals l.0 h.atoms l.1)) l.2.says)

  -- so a check changes nothing
  updated_alone : (s : TermTableau) (ranges : Ranges) → IsOpen ranges → (n : ℕ) (u : AssignmentState) → UpdatesBelow ranges n (state_in s) u
      → IsEmpty s → (u.rows ≡ []) × ((y : ℕ) → u.point y ≡ deltas.origin)
  updated_alone s ranges none n u h is = (h.rows ∙ is.rows, each)
    where
      nonbasic : (y : ℕ) → is_basic y s.rows ≡ false
      nonbasic y = no_basic s.rows is.rows y

      each : (y : ℕ) → u.point y ≡ deltas.origin
      each y = elim (cases_lt y n) [
        | inl below ↦ h.nonbasic_updated y below (nonbasic y) ∙ stays ranges none y (point_in s.values y) ∙ is.values y
        | inr above ↦ h.others y above (nonbasic y) ∙ is.values y
      ]

  -- an exchange is never asked for
  no_exchange : (ranges : Ranges) (t : AssignmentState) → t.rows ≡ [] → (b x : ℕ) → RuleSays deltas ranges t (exchange b x) → ⊥
  no_exchange ranges t none b x h =
      false≢true (ap (λ q. q && not (is_within deltas ranges t.point b)) (sym (no_basic t.rows none b)) ∙ h.1.holds)

  -- so none is made
  made_alone : (ranges : Ranges) (t u : AssignmentState) → t.rows ≡ [] → (es : List (ℕ × ℕ)) → MakesPivots deltas ranges t es u → (es ≡ []) × (t ≡ u)
  made_alone ranges t u none [] h = (refl, h)
  made_alone ranges t u none (e ∷ es) h = absurd (no_exchange ranges t none e.0 e.1 h.0)

  ran_alone : (s : TermTableau) (ranges : Ranges) → IsOpen ranges → (u : AssignmentState) (old new : List (ℕ × ℕ)) → Ran ranges (state_in s) u old new
      → IsEmpty s → old ≡ [] → (u.rows ≡ []) × ((y : ℕ) → u.point y ≡ deltas.origin) × (new ≡ [])
  ran_alone s ranges none u old new h is before =
      let begun : h.start.rows ≡ [] = h.updates_nonbasic.rows ∙ is.rows in
      let made = made_alone ranges h.start u begun h.made h.makes in (
        subst (λ (t : AssignmentState). t.rows ≡ []) made.1 begun,
        (λ y. subst (λ (t : AssignmentState). t.point y ≡ deltas.origin) made.1
            (h.updates_nonbasic.nonbasic y (no_basic s.rows is.rows y) ∙ stays ranges none y (point_in s.values y) ∙ is.values y)),
        h.kept ∙ ap (λ xs. xs ++ h.made) before ∙ made.0,
      )

  pub reaches_nothing : (n : ℕ) (es : List (ℕ × ℕ)) (s : TermTableau) → IsReached ts n es s → IsEmpty s × (es ≡ [])
  reaches_nothing _ _ _ beginning = (record { rows = refl; values = λ y. refl }, refl)
  reaches_nothing _ _ _ (naming n es s h f among u k has new) = absurd (no_form f among)
  reaches_nothing _ _ _ (summing n es s h f among gs are longer is_new) = absurd (no_form f among)
  reaches_nothing _ _ _ (idling n es s h ranges bounds rs vs many ran) =
      let before = reaches_nothing n es s h in
      let after = ran_alone s ranges (open_ranges s ranges bounds) (state_in (moved_to s rs vs)) es es ran before.0 before.1 in
      (record { rows = after.0; values = after.1 }, after.2)
  reaches_nothing _ _ _ (checking n old new s h ranges bounds rs vs many ran) =
      let before = reaches_nothing n old s h in
      let after = ran_alone s ranges (open_ranges s ranges bounds) (state_in (moved_to s rs vs)) old new ran before.0 before.1 in
      (record { rows = after.0; values = after.1 }, after.2)

  -- nor where it is stopped
  pub stopped_on_nothing : (n : ℕ) (es : List (ℕ × ℕ)) (s : TermTableau) → IsStoppedAt ts n es s → IsEmpty s × (es ≡ [])
  stopped_on_nothing _ _ _ (between n es s h) = reaches_nothing n es s h
  stopped_on_nothing _ _ _ (updating_nonbasic n es s h ranges bounds m rs vs many goes) =
      let before = reaches_nothing n es s h in
      let after = updated_alone s ranges (open_ranges s ranges bounds) m (state_in (moved_to s rs vs)) goes before.0 in
      (record { rows = after.0; values = after.1 }, before.1)
  stopped_on_nothing _ _ _ (exchanging n old new s h ranges bounds rs vs many short) =
      let before = reaches_nothing n old s h in
      let after = ran_alone s ranges (open_ranges s ranges bounds) (state_in (moved_to s rs vs)) old short.before short.ran before.0 before.1 in
      absurd (no_exchange ranges (state_in (moved_to s rs vs)) after.0 short.last.0 short.last.1 short.next)

  -- no bound is violated
  nothing_out : (ranges : Ranges) → IsOpen ranges → (v : ℕ → Pair Number) (y : ℕ) → is_within deltas ranges v y ≡ false → ⊥
  nothing_out ranges none v y h = false≢true (sym h ∙ kept ranges none v y)

  check_never : (s : TermTableau) → IsEmpty s → (ranges : Ranges) → IsOpen ranges → (o : Overflow) → CheckOverflows ranges (state_in s) o → ⊥
  check_never s is ranges none o (difference y out w) = nothing_out ranges none (point_in s.values) y out
  check_never s is ranges none o (quotient b x says w) = no_exchange ranges (state_in s) is.rows b x says
  check_never s is ranges none o (move x d (updates_nonbasic n out e) w) = nothing_out ranges none (point_in s.values) x out
  check_never s is ranges none o (move x d (enters b says e) w) = no_exchange ranges (state_in s) is.rows b x says
  check_never s is ranges none o (rows b x says w) = no_exchange ranges (state_in s) is.rows b x says

  conflict_never : (s : TermTableau) → IsEmpty s → (ranges : Ranges) → IsOpen ranges → (up : Bool) (es : List (Entry Number))
      → Conflicts ranges (state_in s) up es → ⊥
  conflict_never s is ranges none _ _ (crossing y h) = false≢true (sym (uncrossed ranges none y) ∙ h.holds)
  conflict_never s is ranges none _ _ (sticking b nonbasic_updated h) =
      false≢true (ap (λ q. q && not (is_within deltas ranges (point_in s.values) b)) (sym (no_basic s.rows is.rows b)) ∙ h.1.holds)

  no_lower : (b : Option (Pair Number)) (x : Pair Number) (o : Overflow) → b ≡ None → OverflowsLower b x o → ⊥
  no_lower None x o e w = w
  no_lower (Some b) x o e w = cc

  no_upper : (b : Option (Pair Number)) (x : Pair Number) (o : Overflow) → b ≡ None → OverflowsUpper b x o → ⊥
  no_upper None x o e w = w
  no_upper (Some b) x o e w = cc

  find_never : (ranges : Ranges) → IsOpen ranges → (r : ℕ) (x : Pair Number) (o : Overflow) → OverflowsRange (ranges r) x o → ⊥
  find_never ranges none r x o (inl w) = no_lower (ranges r).lower x o (none r).0 w
  find_never ranges none r x o (inr w) = no_upper (ranges r).upper x o (none r).1 w

  no_half_above : (b : Option (Pair Number)) (x : Pair Number) (e : Number) → b ≡ None → IsHalfAbove b x e → ⊥
  no_half_above None x e is w = w
  no_half_above (Some b) x e is w = cc

  no_half_below : (b : Option (Pair Number)) (x : Pair Number) (e : Number) → b ≡ None → IsHalfBelow b x e → ⊥
  no_half_below None x e is w = w
  no_half_below (Some b) x e is w = cc

  epsilon_is_one : (ranges : Ranges) → IsOpen ranges → (v : ℕ → Pair Number) (apart : List (Pair Number))
      → ((p : Pair Number) → Contains apart p → ⊥) → (e : Number) → IsEpsilon ranges v apart e → e ≡ numbers.one
  epsilon_is_one ranges none v apart empty e h = elim h.one_of [
    | inl is ↦ is
    | inr (inl (y, inl half)) ↦ absurd (no_half_above (ranges y).lower (v y) e (none y).0 half)
    | inr (inl (y, inr half)) ↦ absurd (no_half_below (ranges y).upper (v y) e (none y).1 half)
    | inr (inr half) ↦ absurd (empty half.lesser half.lesser_in)
  ]

  -- 0 is 0 where the infinitesimal is 1
  zero_at_one : (o : Overflow) → delta_evaluated (delta_in deltas.origin) (numbers.one).fraction ≡ Err o → ⊥
  unfolding delta_evaluated added multiplied plus times gcd is_small fits sum_fits ◌>>=◌ numbers fractions
  zero_at_one o h = cc

  -- nor is there a value to be kept apart
  no_values : ShareNothing ts → (s : TermTableau) (apart : List (Pair Number)) → AreSharedValues ts s apart → (p : Pair Number) → Contains apart p → ⊥
  no_values unshared s among each p there = unshared (each p there).term (each p there).shared

  pub nothing_overflows : ShareNothing ts → (s : TermTableau) → IsEmpty s → (o : Overflow) → OverflowsAt ts s o → ⊥
  nothing_overflows unshared s is o (forming w) = says_neither true w.atom w.constraint (silent w.atom w.there) w.says
  nothing_overflows unshared s is o (bounding f among u k e w) = no_form f among
  nothing_overflows unshared s is o (adding_row f among gs are w) = no_form f among
  nothing_overflows unshared s is o (causes.checking ranges bounds w) = check_never s is ranges (open_ranges s ranges bounds) o w
  nothing_overflows unshared s is o (explaining ranges bounds up gs conflict w) = conflict_never s is ranges (open_ranges s ranges bounds) up gs conflict
  nothing_overflows unshared s is o (valuing u shared w) = unshared u shared
  nothing_overflows unshared s is o (finding ranges bounds within apart kept (halves.bounds y w)) =
      find_never ranges (open_ranges s ranges bounds) y (point_in s.values y) o w
  nothing_overflows unshared s is o (finding ranges bounds within apart kept (values w)) = no_values unshared s apart kept w.lesser w.lesser_in
  nothing_overflows unshared s is o (evaluating ranges bounds within apart kept e half w) =
      let one = epsilon_is_one ranges (open_ranges s ranges bounds) (point_in s.values) apart (no_values unshared s apart kept) e half in
      zero_at_one o (ap (λ (x : Pair Number). delta_evaluated (delta_in x) (numbers.one).fraction) (sym (is.values w.variable))
      ∙ ap (λ (k : Number). delta_evaluated (delta_in (point_in s.values w.variable)) k.fraction) (sym one) ∙ w.leaves)
  nothing_overflows unshared s is o (evaluating_shared ranges bounds within apart kept e half p shared w) = unshared shared.term shared.shared
