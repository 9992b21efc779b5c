-- Exchanges one after the other, and how a check ends.
use Rattle.std.proofs.Common.{◌≡◌, ℕ, List, [], ◌∷◌, ◌++◌, Err, inr, refl, sym, ◌∙◌, ap, subst, append_assoc}
use Rattle.ratio128.specs.Meant.{overflow}
use Rattle.ratio128.specs.declared.wide.Wide.{Wide as WideType}
use Rattle.spec_tableaux.specs.LeastVariable.{RuleSays, Exchanges, MakesPivots, UpdatesNonbasic, exchange}
use Rattle.sat_budget.specs.Budgets.{BudgetView}
use Rattle.sat_budget.specs.declared.limits.Stop.{Stop}
use Rattle.sat_budget.specs.declared.limits.Stop.TheVariants.{Strained}
use Rattle.sat_budget.specs.declared.limits.Stop.TheVariants as stops
use Rattle.tableau.specs.Views.{OnRowOverflow}
use Rattle.tableau.specs.declared.stops.RowStop.{RowStop}
use Rattle.tableau.specs.declared.stops.RowStop.TheVariants as row_stops
use Rattle.spec_tableaux.specs.Points.{deltas, Ranges, AssignmentState}
use Rattle.simplex_check.specs.Assignments.{AssignmentView, state_of}
use Rattle.spec_tableaux.specs.BoundsOverflows.{CheckOverflows}
use Rattle.simplex_check.specs.Ends.{StopsStep, StopsUpdating, IsStopOf, EndsCheck}
use Rattle.spec_tableaux.specs.Runs.{Ran, RanShort, updating_nonbasic, exchanging}

pub append_nil : (xs : List (ℕ × ℕ)) → xs ++ [] ≡ xs
append_nil [] = refl
append_nil (x ∷ xs) = ap (λ z. x ∷ z) (append_nil xs)

-- no exchange is made yet
pub ran_none : (ranges : Ranges) (t u : AssignmentState) (old : List (ℕ × ℕ)) → UpdatesNonbasic deltas ranges t u → Ran ranges t u old old
ran_none ranges t u old s = record { start = u; updates_nonbasic = s; made = []; kept = sym (append_nil old); makes = refl }

makes_more : (ranges : Ranges) (t u w : AssignmentState) (es : List (ℕ × ℕ)) (e : ℕ × ℕ) → MakesPivots deltas ranges t es u → RuleSays deltas ranges u (exchange e.0 e.1)
    → Exchanges deltas ranges u e.0 e.1 w → MakesPivots deltas ranges t (es ++ e ∷ []) w
makes_more ranges t u w [] e m says x =
    (subst (λ z. RuleSays deltas ranges z (exchange e.0 e.1)) (sym m) says, (w, subst (λ z. Exchanges deltas ranges z e.0 e.1 w) (sym m) x, refl))
makes_more ranges t u w (f ∷ es) e m says x = (m.0, (m.1.0, m.1.1, makes_more ranges m.1.0 u w es e m.1.2 says x))

-- one exchange more
pub ran_more : (ranges : Ranges) (t u w : AssignmentState) (old now new : List (ℕ × ℕ)) (e : ℕ × ℕ) → Ran ranges t u old now → new ≡ now ++ e ∷ [] → RuleSays deltas ranges u (exchange e.0 e.1)
    → Exchanges deltas ranges u e.0 e.1 w → Ran ranges t w old new
ran_more ranges t u w old now new e r k says x = record {
  start = r.start;
  updates_nonbasic = r.updates_nonbasic;
  made = r.made ++ e ∷ [];
  kept = k ∙ ap (λ z. z ++ e ∷ []) r.kept ∙ append_assoc old r.made (e ∷ []);
  makes = makes_more ranges r.start u w r.made e r.makes says x;
}

-- one exchange more is kept, and not made
pub ran_short : (ranges : Ranges) (t : AssignmentState) (b c : AssignmentView) (old now new : List (ℕ × ℕ)) (e : ℕ × ℕ) → Ran ranges t (state_of b) old now → new ≡ now ++ e ∷ [] → RuleSays deltas ranges (state_of b) (exchange e.0 e.1)
    → c ≡ b → RanShort ranges t (state_of c) old new
ran_short ranges t b c old now new e r k says s = record {
  before = now;
  last = e;
  kept = k;
  ran = subst (λ b. Ran ranges t (state_of b) old now) (sym s) r;
  next = subst (λ b. RuleSays deltas ranges (state_of b) (exchange e.0 e.1)) (sym s) says;
}

-- the stop of a step, with the basis
pub stops_step : (ranges : Ranges) (b : AssignmentView) (e : RowStop) (s : Stop) → OnRowOverflow (CheckOverflows ranges (state_of b)) e → IsStopOf b e s → StopsStep ranges b s
stops_step ranges b (row_stops.Wide w) (Strained s) h i = (subst (λ (w : WideType). CheckOverflows ranges (state_of b) (overflow w)) (sym i.0) h, i.1)
stops_step ranges b (row_stops.Wide w) stops.Memory h i = tt
stops_step ranges b row_stops.Memory (Strained s) h i = absurd i
stops_step ranges b row_stops.Memory stops.Memory h i = tt

-- a stop on the way to the bounds
pub ends_updating : (ranges : Ranges) (b c : AssignmentView) (old : BudgetView) (s : Stop) → StopsUpdating ranges b c s → EndsCheck ranges b c old old (Err s)
ends_updating ranges b c old (Strained s) h = (updating_nonbasic h.0.0 h.0.1 refl, h.1)
ends_updating ranges b c old stops.Memory h = inr (updating_nonbasic h.0.0 h.0.1 refl)

-- a stop in an exchange
pub ends_exchanging : (ranges : Ranges) (b c : AssignmentView) (old new : BudgetView) (s : Stop) → RanShort ranges (state_of b) (state_of c) old.exchanges new.exchanges → StopsStep ranges c s → EndsCheck ranges b c old new (Err s)
ends_exchanging ranges b c old new (Strained s) r h = (exchanging r, h)
ends_exchanging ranges b c old new stops.Memory r h = inr (exchanging r)

-- a budget in which exchanges alone came
pub budget_more : (f n m : BudgetView) (es : List (ℕ × ℕ)) → n ≡ record f { exchanges = n.exchanges } → m ≡ record n { exchanges = es } → m ≡ record f { exchanges = m.exchanges }
budget_more f n m es a e = e ∙ ap (λ (b : BudgetView). record b { exchanges = es }) a ∙ ap (λ xs. record f { exchanges = xs }) (sym (ap (λ (b : BudgetView). b.exchanges) e))
