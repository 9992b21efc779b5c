-- A check comes to no state twice, and makes fewer exchanges than 3 to the number of its variables.
use Rattle.std.proofs.Common.{◌≡◌, ℕ, zero, suc, ◌+◌, ◌^◌, ◌<◌, ◌≤◌, List, [], ◌∷◌, ◌++◌, length, Result, Ok, Err, inl, inr, refl, sym, ◌∙◌, ap, arith, subst}
use Rattle.spec_tableaux.specs.Rows.{Solves}
use Rattle.spec_tableaux.specs.SolvedForms.{IsSolved}
use Rattle.spec_tableaux.specs.LeastVariable.{UpdatesNonbasic, MakesPivots}
use Rattle.spec_tableaux.specs.States.{AreBelow, RepeatsNoState}
use Rattle.spec_tableaux.specs.Numbers.{numbers}
use Rattle.spec_tableaux.specs.Points.{deltas, Ranges, AssignmentState}
use Rattle.spec_tableaux.specs.Runs.{Ran, RanShort, Stopped, updating_nonbasic, exchanging, CheckRepeatsNoState}
use Rattle.spec_tableaux.proofs.Steps.{one_solution}
use Rattle.spec_tableaux.proofs.UpdatingNonbasic.{updates_updated}
use Rattle.spec_tableaux.proofs.Returns.{reached}
use Rattle.spec_tableaux.proofs.RowVariables.{ends_below}
use Rattle.spec_tableaux.proofs.Repeats.{same_states, repeats_none, says_made}
use Rattle.sat_budget.specs.Budgets.{BudgetView}
use Rattle.sat_budget.specs.declared.limits.Stop.{Stop}
use Rattle.sat_budget.specs.declared.limits.Stop.TheVariants.{Strained}
use Rattle.sat_budget.specs.declared.limits.Stop.TheVariants as stops
use Rattle.simplex_check.specs.Assignments.{AssignmentView, state_of}
use Rattle.simplex_check.specs.Ends.{EndsCheck}
use Rattle.simplex_check.specs.declared.check.CheckOutcome.{CheckOutcome}
use Rattle.simplex_check.specs.declared.check.CheckOutcome.TheVariants.{Fine, Crossed, Conflict}
use Rattle.simplex_check.proofs.Points.{deltas_are_space, deltas_are_ordered, delta_one, one_tells_apart}
use Rattle.simplex_check.proofs.Runs.{append_nil, ran_more}

-- the state after nonbasic variables went to their bounds is one
one_start : (ranges : Ranges) (t u w : AssignmentState) → IsSolved numbers t.rows → UpdatesNonbasic deltas ranges t u → UpdatesNonbasic deltas ranges t w → u ≡ w
one_start ranges t u w i a b =
    same_states u w (a.rows ∙ sym b.rows)
    (one_solution deltas u.point w.point t.rows i (λ y f. a.nonbasic y f ∙ sym (b.nonbasic y f)) (subst (Solves deltas u.point) a.rows a.solves) (subst (Solves deltas w.point) b.rows b.solves))

start_solved : (ranges : Ranges) (t u : AssignmentState) → IsSolved numbers t.rows → UpdatesNonbasic deltas ranges t u → IsSolved numbers u.rows
start_solved ranges t u i a = subst (IsSolved numbers) (sym a.rows) i

-- where the rule says an exchange that was kept and not made, it could be made
ran_whole : (ranges : Ranges) (t u : AssignmentState) (old new : List (ℕ × ℕ)) → IsSolved numbers t.rows → RanShort ranges t u old new → (w : AssignmentState) × Ran ranges t w old new
ran_whole ranges t u old new i r =
    let start = start_solved ranges t r.ran.start i r.ran.updates_nonbasic in
    let within = updates_updated deltas deltas_are_ordered ranges t r.ran.start r.next.0 r.ran.updates_nonbasic in
    let far = reached deltas deltas_are_space deltas_are_ordered ranges r.ran.start u r.ran.made start within r.ran.makes in
    let m = says_made deltas deltas_are_space ranges u r.last.0 r.last.1 far.solved far.nonbasic_updated.solves r.next in
    (m.0, ran_more ranges t u m.0 old r.before new r.last r.ran r.kept r.next m.1)

-- What a check kept: no exchange, or such as the rule says one after the other.
data Kept (ranges : Ranges) (t : AssignmentState) (old new : List (ℕ × ℕ)) : Type 0 where
  nothing : new ≡ old → Kept ranges t old new
  ran_to : (w : AssignmentState) → Ran ranges t w old new → Kept ranges t old new

kept_stopped : (ranges : Ranges) (t u : AssignmentState) (old new : List (ℕ × ℕ)) → IsSolved numbers t.rows → Stopped ranges t u old new → Kept ranges t old new
kept_stopped ranges t u old new i (updating_nonbasic n h e) = nothing e
kept_stopped ranges t u old new i (exchanging r) = let w = ran_whole ranges t u old new i r in ran_to w.0 w.1

kept_in : (ranges : Ranges) (b c : AssignmentView) (old new : BudgetView) (r : Result CheckOutcome Stop) → IsSolved numbers b.tableau.rows → EndsCheck ranges b c old new r → Kept ranges (state_of b) old.exchanges new.exchanges
kept_in ranges b c old new (Ok Fine) i h = ran_to (state_of c) h.0
kept_in ranges b c old new (Ok (Conflict y)) i h = ran_to (state_of c) h.0
kept_in ranges b c old new (Ok (Crossed y)) i h = nothing (ap (λ (b : BudgetView). b.exchanges) h.1)
kept_in ranges b c old new (Err (Strained s)) i h = kept_stopped ranges (state_of b) (state_of c) old.exchanges new.exchanges i h.0
kept_in ranges b c old new (Err stops.Memory) i (inl r) = ran_to (state_of c) r
kept_in ranges b c old new (Err stops.Memory) i (inr s) = kept_stopped ranges (state_of b) (state_of c) old.exchanges new.exchanges i s

-- what comes after the same exchanges is the same
rest_same : (old xs ys : List (ℕ × ℕ)) → old ++ xs ≡ old ++ ys → xs ≡ ys
rest_same [] xs ys e = e
rest_same (x ∷ old) xs ys e = rest_same old xs ys (tail_same x x (old ++ xs) (old ++ ys) e)
  where
    tail_same : (a b : ℕ × ℕ) (xs ys : List (ℕ × ℕ)) → a ∷ xs ≡ b ∷ ys → xs ≡ ys
    tail_same a b xs ys e = cc

-- parts of nothing are nothing
middle_none : (before during after : List (ℕ × ℕ)) → [] ≡ before ++ (during ++ after) → during ≡ []
middle_none [] [] after e = refl
middle_none [] (x ∷ during) after e = absurd (cc)
middle_none (x ∷ before) during after e = absurd (cc)

repeats_made : (ranges : Ranges) (t start w : AssignmentState) (made : List (ℕ × ℕ)) → IsSolved numbers t.rows → UpdatesNonbasic deltas ranges t start → MakesPivots deltas ranges start made w → RepeatsNoState deltas ranges start made
repeats_made ranges t start w [] i a m = λ before during after e u v first second same. middle_none before during after e
repeats_made ranges t start w (e ∷ es) i a m =
    repeats_none deltas deltas_are_space deltas_are_ordered delta_one one_tells_apart ranges start w (e ∷ es) (start_solved ranges t start i a) (updates_updated deltas deltas_are_ordered ranges t start m.0.0 a) m

repeats_kept : (ranges : Ranges) (t : AssignmentState) (old new : List (ℕ × ℕ)) → IsSolved numbers t.rows → Kept ranges t old new → CheckRepeatsNoState ranges t old new
repeats_kept ranges t old new i (nothing e) start made a k =
    λ before during after split u v first second same. middle_none before during after (rest_same old [] made (append_nil old ∙ sym e ∙ k) ∙ split)
repeats_kept ranges t old new i (ran_to w r) start made a k =
    subst (RepeatsNoState deltas ranges start) (rest_same old r.made made (sym r.kept ∙ k))
    (repeats_made ranges t start w r.made i a (subst (λ z. MakesPivots deltas ranges z r.made w) (one_start ranges t r.start start i r.updates_nonbasic a) r.makes))

-- a check comes to no state twice
pub repeats_no_state : (ranges : Ranges) (b c : AssignmentView) (old new : BudgetView) (r : Result CheckOutcome Stop) → IsSolved numbers b.tableau.rows → EndsCheck ranges b c old new r
    → CheckRepeatsNoState ranges (state_of b) old.exchanges new.exchanges
repeats_no_state ranges b c old new r i h = repeats_kept ranges (state_of b) old.exchanges new.exchanges i (kept_in ranges b c old new r i h)

power_positive : (n : ℕ) → 0 < 3 ^ n
power_positive zero = omega arith
power_positive (suc n) = let h = power_positive n in omega arith

few_steps : (ranges : Ranges) (n : ℕ) (t start w : AssignmentState) (made : List (ℕ × ℕ)) → IsSolved numbers t.rows → AreBelow n t.rows → UpdatesNonbasic deltas ranges t start → MakesPivots deltas ranges start made w → length made < 3 ^ n
few_steps ranges n t start w [] i b a m = power_positive n
few_steps ranges n t start w (e ∷ es) i b a m =
    ends_below deltas deltas_are_space deltas_are_ordered ranges n start w (e ∷ es) (start_solved ranges t start i a) (updates_updated deltas deltas_are_ordered ranges t start m.0.0 a) (subst (AreBelow n) (sym a.rows) b) m

length_both : (xs ys : List (ℕ × ℕ)) → length (xs ++ ys) ≡ length xs + length ys
length_both [] ys = omega arith
length_both (x ∷ xs) ys = let h : length (xs ++ ys) ≡ length xs + length ys = length_both xs ys in omega arith

-- exchanges that were made are few
pub few_ran : (ranges : Ranges) (n : ℕ) (t u : AssignmentState) (old new : List (ℕ × ℕ)) → IsSolved numbers t.rows → AreBelow n t.rows → Ran ranges t u old new → (length old ≤ length new) × (length new < length old + 3 ^ n)
few_ran ranges n t u old new i b r =
    let few = few_steps ranges n t r.start u r.made i b r.updates_nonbasic r.makes in
    let whole : length new ≡ length old + length r.made = ap length r.kept ∙ length_both old r.made in
    (omega (arith, whole), omega (arith, whole, few))

few_kept : (ranges : Ranges) (n : ℕ) (t : AssignmentState) (old new : List (ℕ × ℕ)) → IsSolved numbers t.rows → AreBelow n t.rows → Kept ranges t old new → length new < length old + 3 ^ n
few_kept ranges n t old new i b (nothing e) = let same : length new ≡ length old = ap length e in let h = power_positive n in omega arith
few_kept ranges n t old new i b (ran_to w r) = (few_ran ranges n t w old new i b r).1

-- a check makes few exchanges
pub few_exchanges : (ranges : Ranges) (n : ℕ) (b c : AssignmentView) (old new : BudgetView) (r : Result CheckOutcome Stop) → IsSolved numbers b.tableau.rows → AreBelow n b.tableau.rows → EndsCheck ranges b c old new r
    → length new.exchanges < length old.exchanges + 3 ^ n
few_exchanges ranges n b c old new r i k h = few_kept ranges n (state_of b) old.exchanges new.exchanges i k (kept_in ranges b c old new r i h)
