-- A check from a point that keeps each bound makes no exchange, and stays there; and where no run is counted, no exchange was made.
use Rattle.std.proofs.Common.{◌≡◌, ℕ, Bool, true, false, List, [], ◌∷◌, ◌++◌, refl, sym, ap, ◌∙◌, subst, arith}
use Rattle.std.specs.Prelude.{◌||◌, ◌&&◌, not, cond}
use Rattle.std.proofs.lemmas.Bool.{false≢true}
use Rattle.std.proofs.lemmas.List.{append-nil}
use Rattle.spec_tableaux.specs.Spaces.{Pair}
use Rattle.spec_tableaux.specs.Rows.{Solves, is_basic}
use Rattle.spec_tableaux.specs.SolvedForms.{IsSolved}
use Rattle.spec_tableaux.specs.Ranges.{Range, below, above, bound_or, value_in_range, is_within, Meets}
use Rattle.spec_tableaux.specs.LeastVariable.{RuleSays, MakesPivots, exchange}
use Rattle.spec_tableaux.specs.Numbers.{Number, numbers}
use Rattle.spec_tableaux.proofs.Steps.{one_solution}
use Rattle.spec_tableaux.specs.Points.{deltas, Ranges, AssignmentState}
use Rattle.spec_tableaux.specs.Runs.{Ran, RanShort}
use Rattle.spec_sorts.specs.Terms.{Term}
use Rattle.spec_causes.specs.TermTableau.{TermTableau}
use Rattle.spec_causes.specs.Reached.{IsReached, beginning, naming, summing, idling, checking}

-- a value that is within its range stays
stays_within : (range : Range (Pair Number)) (x : Pair Number)
    → not (below deltas x range.lower || above deltas x range.upper) ≡ true → value_in_range deltas range x ≡ x
stays_within range x h = by (below deltas x range.lower) (above deltas x range.upper) h
  where
    by : (low high : Bool) → not (low || high) ≡ true → cond low (bound_or x range.lower) (cond high (bound_or x range.upper) x) ≡ x
    by true high h = absurd (false≢true h)
    by false true h = absurd (false≢true h)
    by false false h = refl

-- A check from t led to u, and nothing changed.
record IsUnmoved (t u : AssignmentState) (old new : List (ℕ × ℕ)) : Type 0 where
  pub same_point : (y : ℕ) → u.point y ≡ t.point y
  pub none_made : new ≡ old

module _ (ranges : Ranges) (t : AssignmentState) (solved : IsSolved numbers t.rows) (meets : Meets deltas t.rows ranges t.point) where
  -- where the point is the same, the rule says no exchange
  no_exchange_there : (u : AssignmentState) → ((y : ℕ) → u.point y ≡ t.point y) → (b x : ℕ) → RuleSays deltas ranges u (exchange b x) → ⊥
  no_exchange_there u same b x h = by (is_basic b u.rows) h.1.holds
    where
      kept : is_within deltas ranges u.point b ≡ true
      kept = ap (λ z. not (below deltas z (ranges b).lower || above deltas z (ranges b).upper)) (same b) ∙ meets.within b

      by : (q : Bool) → (q && not (is_within deltas ranges u.point b)) ≡ true → ⊥
      by true h = false≢true (sym (ap not kept) ∙ h)
      by false h = false≢true h

  -- so the exchanges of such a check are none, and it ends where it starts
  kept_stays : (u : AssignmentState) (old new : List (ℕ × ℕ)) → Ran ranges t u old new → IsUnmoved t u old new
  kept_stays u old new ran = record {
    same_point = subst (λ (w : AssignmentState). (y : ℕ) → w.point y ≡ t.point y) made.1 same;
    none_made = ran.kept ∙ ap (λ es. old ++ es) made.0 ∙ append-nil old;
  }
    where
      same : (y : ℕ) → ran.start.point y ≡ t.point y
      same = one_solution deltas ran.start.point t.point t.rows solved
          (λ y free. ran.updates_nonbasic.nonbasic y free ∙ stays_within (ranges y) (t.point y) (meets.within y))
          (subst (Solves deltas ran.start.point) ran.updates_nonbasic.rows ran.updates_nonbasic.solves) meets.solves

      none : (es : List (ℕ × ℕ)) → MakesPivots deltas ranges ran.start es u → (es ≡ []) × (ran.start ≡ u)
      none [] h = (refl, h)
      none (e ∷ es) h = absurd (no_exchange_there ran.start same e.0 e.1 h.0)

      made : (ran.made ≡ []) × (ran.start ≡ u)
      made = none ran.made ran.makes

pub kept_makes_none : (ranges : Ranges) (t u : AssignmentState) (old new : List (ℕ × ℕ)) → IsSolved numbers t.rows
    → Meets deltas t.rows ranges t.point → Ran ranges t u old new → new ≡ old
kept_makes_none ranges t u old new solved meets ran = (kept_stays ranges t solved meets u old new ran).none_made

-- nor is a further one asked for
pub kept_is_not_short : (ranges : Ranges) (t u : AssignmentState) (old new : List (ℕ × ℕ)) → IsSolved numbers t.rows
    → Meets deltas t.rows ranges t.point → RanShort ranges t u old new → ⊥
kept_is_not_short ranges t u old new solved meets short =
    no_exchange_there ranges t solved meets u (kept_stays ranges t solved meets u old short.before short.ran).same_point
    short.last.0 short.last.1 short.next

-- exchanges come of runs that are counted
pub uncounted : (ts : List Term) (n : ℕ) (es : List (ℕ × ℕ)) (s : TermTableau) → IsReached ts n es s → n ≡ 0 → es ≡ []
uncounted ts _ _ _ beginning e = refl
uncounted ts _ _ _ (naming n es s h f among u k has new) e = uncounted ts n es s h e
uncounted ts _ _ _ (summing n es s h f among gs are longer is_new) e = uncounted ts n es s h e
uncounted ts _ _ _ (idling n es s h ranges bounds rs vs many ran) e = uncounted ts n es s h e
uncounted ts _ _ _ (checking n old new s h ranges bounds rs vs many ran) e = absurd (omega (arith, e))
