-- What a check found, what it shows of held literals, and why it stops.
use Rattle.std.proofs.Common.{◌≡◌, ℕ, List, [], ◌∷◌, ◌++◌, length, All, Contains, Result, Ok, Err, inl, inr, refl, sym, ap, ◌∙◌, subst, append_assoc, append-nil}
use Rattle.std.proofs.lemmas.List.Elements.{All-contains, All-nil}
use Rattle.spec_numbers.specs.Bounds.{Overflow}
use Rattle.spec_sorts.specs.Terms.{Term}
use Rattle.spec_simplex.specs.Constraints.{constraint_of, HaveForms}
use Rattle.spec_simplex.specs.Points.{IsFeasible}
use Rattle.spec_derivations.specs.Lemmas.{IsLemma}
use Rattle.spec_causes.specs.Bounds.{AreBounds}
use Rattle.spec_causes.specs.Causes.{OverflowsAt, checking}
use Rattle.ratio128.specs.Meant.{overflow}
use Rattle.ratio128.specs.declared.wide.Wide.{Wide}
use Rattle.term_core.specs.declared.ids.Lit.{Lit}
use Rattle.term_core.specs.Tables.{TableView, positive_literal, IsIn, AreDifferent, Extends}
use Rattle.sat_budget.specs.Budgets.{BudgetView, StopsBy}
use Rattle.sat_budget.specs.declared.limits.Stop.{Stop}
use Rattle.sat_budget.specs.declared.limits.Stop.TheVariants.{Strained}
use Rattle.sat_budget.specs.declared.limits.Stop.TheVariants as stops
use Rattle.proof_log.specs.Theories.{IsTheoryOver, terms_watched, literals_held, DerivesLemmas, derived}
use Rattle.proof_log.specs.Logs.{Logged, inference_of, derivation_in, IsLogOf}
use Rattle.proof_log.specs.declared.theory.Verdict.{Verdict}
use Rattle.proof_log.specs.declared.theory.Verdict.TheVariants as verdicts
use Rattle.proof_log.specs.declared.premises.StepId.{StepId}
use Rattle.held_literals.specs.Room.{AreOverWatched}
use Rattle.tableau.specs.Views.{IsTableau}
use Rattle.simplex_bounds.specs.Held.{ranges_in}
use Rattle.simplex_check.specs.Assignments.{AssignmentView, state_of, IsBasisOf}
use Rattle.spec_tableaux.specs.Points.{Ranges, AssignmentState}
use Rattle.simplex_check.specs.Ends.{EndsCheck}
use Rattle.spec_tableaux.specs.Runs.{Stopped, updating_nonbasic, exchanging}
use Rattle.simplex_check.specs.declared.check.CheckOutcome.{CheckOutcome}
use Rattle.simplex_check.specs.declared.check.CheckOutcome.TheVariants.{Fine, Crossed, Conflict}
use Rattle.simplex_explain.specs.declared.weighted.Weighted.{Weighted}
use Rattle.simplex_explain.specs.Reasons.{AreAtomReasons, AreHeld, Refutes}
use Rattle.simplex_explain.specs.BoundReasons.{AreOfHeld}
use Rattle.simplex_explain.proofs.Holding.{ran_updated}
use Rattle.simplex_explain.specs.Stated.{AreBoundsOf, IsKnownIn}
use Rattle.simplex_explain.specs.Keeping.{KeepsHeld}
use Rattle.simplex_explain.proofs.StatedBounds.{all_from}
use Rattle.simplex_explain.proofs.HeldReasons.{reasons_held, reasons_watched}
use Rattle.simplex_explain.proofs.Feasible.{feasible}
use Rattle.simplex_explain.proofs.Assignments.{fit}
use Rattle.simplex_atoms.specs.Slacks.{slack_in}
use Rattle.simplex_atoms.specs.Watching.{IsWatched}
use Rattle.simplex_atoms.proofs.Fitting.{right_after}
use Rattle.simplex.specs.Views.{SimplexView, SimplexFits, IsOf}
use Rattle.term_core.proofs.TermsExtend.{Extends-self, term_at-kept}
use Rattle.simplex.specs.Checks.{KeepsBounds, Found, AnswersOutcome}
use Rattle.simplex.specs.Coming.{term_tableau_of, IsOverflowAt}

-- what a check says that something is wrong with is so
pub found : (v : SimplexView) (b : AssignmentView) (old new : BudgetView) (o : CheckOutcome) → (o ≡ Fine → ⊥) → EndsCheck (ranges_in v.bounds.held) b v.assignment old new (Ok o) → Found v o
found v b old new Fine n e = absurd (n refl)
found v b old new (Crossed y) n e = e.2
found v b old new (Conflict y) n e = (ran_updated (ranges_in v.bounds.held) (state_of b) (state_of v.assignment) old.exchanges new.exchanges e.1.0 e.0, e.1)

stopped_more : (ranges : Ranges) (t u : AssignmentState) (old new : List (ℕ × ℕ)) → Stopped ranges t u old new → (more : List (ℕ × ℕ)) × (new ≡ old ++ more)
stopped_more ranges t u old new (updating_nonbasic n s e) = ([], e ∙ sym (append-nil old))
stopped_more ranges t u old new (exchanging r) = (r.ran.made ++ r.last ∷ [], r.kept ∙ ap (λ es. es ++ r.last ∷ []) r.ran.kept ∙ append_assoc old r.ran.made (r.last ∷ []))

-- a check keeps exchanges after those that there were
pub spent : (ranges : Ranges) (b c : AssignmentView) (old new : BudgetView) (r : Result CheckOutcome Stop) → EndsCheck ranges b c old new r → (more : List (ℕ × ℕ)) × (new.exchanges ≡ old.exchanges ++ more)
spent ranges b c old new (Ok Fine) e = (e.0.made, e.0.kept)
spent ranges b c old new (Ok (Crossed y)) e = ([], ap (λ (x : BudgetView). x.exchanges) e.1 ∙ sym (append-nil old.exchanges))
spent ranges b c old new (Ok (Conflict y)) e = (e.0.made, e.0.kept)
spent ranges b c old new (Err (Strained s)) e = stopped_more ranges (state_of b) (state_of c) old.exchanges new.exchanges e.0
spent ranges b c old new (Err stops.Memory) (inl ran) = (ran.made, ran.kept)
spent ranges b c old new (Err stops.Memory) (inr s) = stopped_more ranges (state_of b) (state_of c) old.exchanges new.exchanges s

-- its stop is one of simplex in its state
pub stopped : (t : TableView) (ts : List Term) (v : SimplexView) (b : AssignmentView) (old new : BudgetView) (stop : Stop) → AreBounds ts (term_tableau_of t v) (ranges_in v.bounds.held)
    → EndsCheck (ranges_in v.bounds.held) b v.assignment old new (Err stop) → StopsBy (λ s. IsOverflowAt t ts s v) stop
stopped t ts v b old new (Strained s) bounds e = (checking (ranges_in v.bounds.held) bounds e.1.0, e.1.1)
stopped t ts v b old new stops.Memory bounds e = tt

-- the stop of an overflow, of which P holds
pub overflowed_by : (P : Overflow → Type 0) (v : SimplexView) (w : Wide) (stop : Stop) → P (overflow w) → StopsBy (λ s. (s.wide ≡ w) × IsBasisOf v.assignment s.basis) stop
    → StopsBy (λ s. P (overflow s.wide) × IsBasisOf v.assignment s.basis) stop
overflowed_by P v w (Strained s) h p = (subst (λ (x : Wide). P (overflow x)) (sym p.0) h, p.1)
overflowed_by P v w stops.Memory h p = tt

-- it is one of simplex in its state
pub overflowed : (t : TableView) (ts : List Term) (v : SimplexView) (w : Wide) (stop : Stop) → OverflowsAt ts (term_tableau_of t v) (overflow w) → StopsBy (λ s. (s.wide ≡ w) × IsBasisOf v.assignment s.basis) stop
    → StopsBy (λ s. IsOverflowAt t ts s v) stop
overflowed t ts v w stop h p = overflowed_by (OverflowsAt ts (term_tableau_of t v)) v w stop h p

-- Literals of watched terms are held that cannot all hold by their weights, over a table.
pub record AreRefuted (ts : List Term) (v : SimplexView) (t : TableView) (rs : List Weighted) : Type 0 where
  -- they are of watched terms
  pub watched : AreAtomReasons ts t rs
  -- they are held
  pub held : AreHeld v.theory.held rs
  -- their sum is a contradiction
  pub refutes : Refutes t rs

-- reasons are held literals of watched atoms
pub refuted : (t : TableView) (v : SimplexView) (rs : List Weighted) → SimplexFits v → AreOverWatched v.theory.held v.theory.watched → IsTheoryOver t v.theory → AreOfHeld v.bounds.held rs → Refutes t rs → AreRefuted (terms_watched t v.theory) v t rs
refuted t v rs f over watched of r = record {
  watched = reasons_watched t v.theory v.atoms.slack_list v.bounds.held rs f.bounds_are of watched over;
  held = reasons_held v.atoms.slack_list v.theory.held v.bounds.held rs f.bounds_are of;
  refutes = r;
}

-- an assignment of as many variables and the same rows added fits
pub assignment_fits : (t : TableView) (v : SimplexView) (c : AssignmentView) → c.tableau.variables ≡ v.assignment.tableau.variables → c.tableau.listed ≡ v.assignment.tableau.listed → IsOf v t → IsOf (record v { assignment = c }) t
assignment_fits t v c n l is = record { right = fit t v.atoms v.assignment c v.bounds is.right n l; known = is.known }

-- what is right over a table is right over one that has more
pub table_grows : (t u : TableView) (v : SimplexView) → Extends t u → All (IsIn t) v.theory.watched → IsOf v t → IsOf v u
table_grows t u v more there is = record {
  right = right_after t u more v.atoms v.assignment v.bounds is.right;
  known = all_from (IsKnownIn u v.atoms.slack_list) v.theory.watched (λ id c. subst (λ (x : Term). IsWatched (slack_in v.atoms.slack_list id) (constraint_of (positive_literal x))) (sym (term_at-kept t u more id (All-contains (IsIn t) v.theory.watched id there c))) (All-contains (IsKnownIn t v.atoms.slack_list) v.theory.watched id is.known c));
}

-- values that keep the bounds keep those of held literals
pub keeps_held : (t : TableView) (v : SimplexView) → AreDifferent t.terms → IsTableau v.assignment.tableau → IsOf v t → AreBoundsOf v.atoms.slack_list v.theory.held v.bounds.held → AreOverWatched v.theory.held v.theory.watched
    → KeepsBounds v → KeepsHeld t v.atoms v.assignment v.bounds v.theory.held
keeps_held t v unique tableau is f over meets = record {
  right = is.right;
  tableau = tableau;
  unique = unique;
  bounds_are = f;
  known = all_from (λ (l : Lit). IsKnownIn t v.atoms.slack_list l.term) v.theory.held (λ l c. All-contains (IsKnownIn t v.atoms.slack_list) v.theory.watched l.term is.known (All-contains (λ (l : Lit). Contains v.theory.watched l.term) v.theory.held l over c));
  meets = meets;
}

-- so the literals have forms, and a point keeps them
pub fine : (t : TableView) (v : SimplexView) → AreDifferent t.terms → IsTableau v.assignment.tableau → IsOf v t → AreBoundsOf v.atoms.slack_list v.theory.held v.bounds.held → AreOverWatched v.theory.held v.theory.watched
    → KeepsBounds v → HaveForms (literals_held t v.theory) × IsFeasible (literals_held t v.theory)
fine t v unique tableau is f over meets = feasible t v.atoms v.assignment v.bounds v.theory.held (keeps_held t v unique tableau is f over meets)

-- no terms and no steps came
pub nothing_came : (ts : List Term) (t : TableView) (log : List Logged) → IsLogOf t log → DerivesLemmas ts (derived t log) (derived t log)
nothing_came ts t log right = record {
  table = Extends-self t;
  declared = refl;
  more = [];
  log = sym (append-nil log);
  right = right;
  lemmas = All-nil (λ l. IsLemma ts (derivation_in t log) (length log) (inference_of t l));
}

-- another answer than that nothing is wrong
pub answers : (o : CheckOutcome) (r : Result Verdict Stop) → (o ≡ Fine → ⊥) → (r ≡ Ok verdicts.Fine → ⊥) → AnswersOutcome (Ok o) r
answers Fine r n d = absurd (n refl)
answers (Crossed y) r n d = d
answers (Conflict y) r n d = d

pub clash_differs : (s : StepId) → (let r : Result Verdict Stop = Ok (verdicts.Clash s) in r) ≡ Ok verdicts.Fine → ⊥
clash_differs s e = cc

pub stop_differs : (s : Stop) → (let r : Result Verdict Stop = Err s in r) ≡ Ok verdicts.Fine → ⊥
stop_differs s e = cc
