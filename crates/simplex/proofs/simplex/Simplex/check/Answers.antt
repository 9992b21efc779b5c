-- The rows stop, or say what is so of the literals.
use Rattle.std.proofs.Common.{ℕ, suc, List, Result, Err, Ok, refl, sym, ◌∙◌, ap, subst}
use Rattle.sat_budget.specs.Budgets.{BudgetView}
use Rattle.std.proofs.lemmas.List.Elements.{All-weaker}
use Rattle.spec_simplex.specs.Constraints.{HaveForms}
use Rattle.spec_simplex.specs.Points.{IsFeasible, IsInfeasible}
use Rattle.term_core.specs.Tables.{TableView, IsIn}
use Rattle.spec_causes.specs.Bounds.{AreBounds}
use Rattle.sat_budget.specs.Budgets.{StopsBy}
use Rattle.sat_budget.specs.declared.limits.Stop.{Stop}
use Rattle.proof_log.specs.Clashes.{IsClash}
use Rattle.proof_log.specs.Theories.{IsTheoryOver, IsTermIn, terms_watched, literals_held, DerivesLemmas, CameTo, paid_after, derived}
use Rattle.tableau.specs.Views.{IsTableau}
use Rattle.simplex_check.specs.Ends.{EndsCheck}
use Rattle.proof_log.specs.declared.theory.Verdict.{Verdict}
use Rattle.simplex.specs.Checks.{KeepsBounds}
use Rattle.simplex.specs.Coming.{term_tableau_of, CameBy, StoppedBy, IsOverflowAt}
use Rattle.simplex.proofs.Coming.{came_over_more, watched_bounds, suits_over, fits_on, came_fine, came_found, stopped_found, came_stopped, stops_there}
use Rattle.spec_tableaux.specs.Points.{point_in}
use Rattle.simplex_bounds.specs.Held.{ranges_in}
use Rattle.simplex_bounds.proofs.Keeping.{ranges_kept}
use Rattle.simplex_check.specs.Suspects.{KeepsFirst}
use Rattle.simplex_check.proofs.KeptFirst.{keeps_all}
use Rattle.simplex_explain.proofs.Checked.{checked_meets}
use Rattle.simplex.specs.Views.{SimplexView, IsOf}
use Rattle.simplex.proofs.Judging.{spent, stopped, assignment_fits, table_grows, fine, found, nothing_came, answers, clash_differs, stop_differs}
use Rattle.simplex.proofs.simplex.Simplex.check.Goals as goal

pub invariant_of-self-in-Fine : goal.invariant_of-self-in-Fine
invariant_of-self-in-Fine c =
    let s = c.self.inside in
    let old : SimplexView = record { theory = s.literals; atoms = s.atoms; assignment = s.assignment; bounds = s.bounds; starts = s.starts.items } in
    let v : SimplexView = record { theory = s.literals; atoms = s.atoms; assignment = c.check_after.new.self; bounds = s.bounds; starts = s.starts.items } in
    let ends = subst (λ o. EndsCheck (ranges_in s.bounds.held) s.assignment c.check_after.new.self c.args.budget.now c.check_after.new.budget (Ok o)) c.in-Fine.is c.in-Ok.ensures.ends in
    let meets : KeepsBounds v = checked_meets (ranges_in s.bounds.held) s.assignment c.check_after.new.self c.args.budget.now c.check_after.new.budget ends in (
      fits_on old c.check_after.new.self c.self.invariant.0,
      c.self.invariant.1,
      subst (λ n. KeepsFirst n s.bounds.held c.check_after.new.self.values) (sym c.held_len-self-inside.ensures)
          (keeps_all s.bounds.held c.check_after.new.self.values ((ranges_kept s.bounds.held (point_in c.check_after.new.self.values)).0 meets.within)),
    )

pub returns-in-Err-clause-with : goal.returns-in-Err-clause-with
returns-in-Err-clause-with c =
    let s = c.self.inside in
    assignment_fits c.args.table.now (record { theory = s.literals; atoms = s.atoms; assignment = s.assignment; bounds = s.bounds; starts = s.starts.items }) c.check_after.new.self c.check_after.ensures.variables c.check_after.ensures.listed
    (subst (λ (v : SimplexView). IsOf v c.args.table.now) (sym c.self.view_is) c.requires.with)

pub returns-in-Err-clause-budget : goal.returns-in-Err-clause-budget
returns-in-Err-clause-budget c =
    let s = c.self.inside in
    let old = c.args.budget.now in
    let more = spent (ranges_in s.bounds.held) s.assignment c.check_after.new.self old c.check_after.new.budget (Err c.in-Err.stop) c.in-Err.ensures.ends in
    (more.0, c.check_after.ensures.budget ∙ ap (λ (es : List (ℕ × ℕ)). (let b : BudgetView = record { limit = old.limit; learned = old.learned; exchanges = es } in b)) more.1)

pub returns-in-Err-clause-came : goal.returns-in-Err-clause-came
returns-in-Err-clause-came c ts n came =
    let s = c.self.inside in
    let t = c.args.table.now in
    let old : SimplexView = record { theory = s.literals; atoms = s.atoms; assignment = s.assignment; bounds = s.bounds; starts = s.starts.items } in
    let v : SimplexView = record { theory = s.literals; atoms = s.atoms; assignment = c.check_after.new.self; bounds = s.bounds; starts = s.starts.items } in
    let is : IsOf old t = subst (λ (v : SimplexView). IsOf v t) (sym c.self.view_is) c.requires.with in
    let came : CameBy t ts n c.args.budget.now.exchanges old = subst (CameBy t ts n c.args.budget.now.exchanges) (sym c.self.view_is) came in
    let solved = (subst IsTableau c.tableau.ensures c.rows_are_in_solved_form.ensures).solved in
    came_stopped t ts old c.check_after.new.self is c.self.invariant.0 solved c.check_after.ensures.listed
    (c.values_solve_the_rows-in-Err.ensures.lengths ∙ c.check_after.ensures.variables ∙ sym c.values_solve_the_rows.ensures.lengths) n c.args.budget.now c.check_after.new.budget came c.in-Err.stop
    (λ verdict. CameBy t ts (paid_after verdict n) c.check_after.new.budget.exchanges v) c.in-Err.ensures.ends

pub returns-in-Err-clause-stops : goal.returns-in-Err-clause-stops
returns-in-Err-clause-stops c =
    let s = c.self.inside in
    let t = c.args.table.now in
    let old : SimplexView = record { theory = s.literals; atoms = s.atoms; assignment = s.assignment; bounds = s.bounds; starts = s.starts.items } in
    let v : SimplexView = record { theory = s.literals; atoms = s.atoms; assignment = c.check_after.new.self; bounds = s.bounds; starts = s.starts.items } in
    let with : IsOf v t = assignment_fits t old c.check_after.new.self c.check_after.ensures.variables c.check_after.ensures.listed (subst (λ (v : SimplexView). IsOf v t) (sym c.self.view_is) c.requires.with) in
    let bounds = watched_bounds t v with (fits_on old c.check_after.new.self c.self.invariant.0) c.are_of_watched_terms.ensures.over in
    stopped t (terms_watched t c.args.self.now.theory) v s.assignment c.args.budget.now c.check_after.new.budget c.in-Err.stop
    (subst (λ (w : SimplexView). AreBounds (terms_watched t w.theory) (term_tableau_of t v) (ranges_in s.bounds.held)) c.self.view_is bounds) c.in-Err.ensures.ends

pub returns-in-Fine-clause-came : goal.returns-in-Fine-clause-came
returns-in-Fine-clause-came c ts n came =
    let s = c.self.inside in
    let t = c.args.table.now in
    let old : SimplexView = record { theory = s.literals; atoms = s.atoms; assignment = s.assignment; bounds = s.bounds; starts = s.starts.items } in
    let v : SimplexView = record { theory = s.literals; atoms = s.atoms; assignment = c.check_after.new.self; bounds = s.bounds; starts = s.starts.items } in
    let is : IsOf old t = subst (λ (v : SimplexView). IsOf v t) (sym c.self.view_is) c.requires.with in
    let came : CameBy t ts n c.args.budget.now.exchanges old = subst (CameBy t ts n c.args.budget.now.exchanges) (sym c.self.view_is) came in
    let solved = (subst IsTableau c.tableau.ensures c.rows_are_in_solved_form.ensures).solved in
    let ends = subst (λ o. EndsCheck (ranges_in s.bounds.held) s.assignment c.check_after.new.self c.args.budget.now c.check_after.new.budget (Ok o)) c.in-Fine.is c.in-Ok.ensures.ends in
    let keeps : KeepsBounds v = checked_meets (ranges_in s.bounds.held) s.assignment c.check_after.new.self c.args.budget.now c.check_after.new.budget ends in
    came_fine t ts old c.check_after.new.self is c.self.invariant.0 solved c.check_after.ensures.listed
    (c.values_solve_the_rows-2.ensures.lengths ∙ c.check_after.ensures.variables ∙ sym c.values_solve_the_rows.ensures.lengths) n c.args.budget.now c.check_after.new.budget came c.in-Ok.outcome c.in-Ok.ensures.ends keeps

pub returns-in-Fine-clause-with : goal.returns-in-Fine-clause-with
returns-in-Fine-clause-with c =
    let s = c.self.inside in
    assignment_fits c.args.table.now (record { theory = s.literals; atoms = s.atoms; assignment = s.assignment; bounds = s.bounds; starts = s.starts.items }) c.check_after.new.self c.check_after.ensures.variables c.check_after.ensures.listed
    (subst (λ (v : SimplexView). IsOf v c.args.table.now) (sym c.self.view_is) c.requires.with)

pub returns-in-Fine-clause-checks : goal.returns-in-Fine-clause-checks
returns-in-Fine-clause-checks c =
    let s = c.self.inside in
    let t = c.args.table.now in
    let v : SimplexView = record { theory = s.literals; atoms = s.atoms; assignment = c.check_after.new.self; bounds = s.bounds; starts = s.starts.items } in
    let with : IsOf v t = assignment_fits c.args.table.now (record { theory = s.literals; atoms = s.atoms; assignment = s.assignment; bounds = s.bounds; starts = s.starts.items }) c.check_after.new.self c.check_after.ensures.variables c.check_after.ensures.listed
    (subst (λ (v : SimplexView). IsOf v c.args.table.now) (sym c.self.view_is) c.requires.with) in
    let ends = subst (λ o. EndsCheck (ranges_in s.bounds.held) s.assignment c.check_after.new.self c.args.budget.now c.check_after.new.budget (Ok o)) c.in-Fine.is c.in-Ok.ensures.ends in
    let meets : KeepsBounds v = checked_meets (ranges_in s.bounds.held) s.assignment c.check_after.new.self c.args.budget.now c.check_after.new.budget ends in
    let both = subst (λ (w : SimplexView). HaveForms (literals_held t w.theory) × IsFeasible (literals_held t w.theory)) c.self.view_is
    (fine t v c.ids_are_unique.ensures (subst IsTableau c.tableau-in-Fine.ensures c.rows_are_in_solved_form-in-Fine.ensures) with c.self.invariant.0.bounds_are c.are_of_watched_terms.ensures.over meets) in
    ((both.0, both.1, meets), nothing_came (terms_watched t c.args.self.now.theory) t c.args.log.now c.requires.log)

pub clash-requires : goal.clash-requires
clash-requires c =
    let s = c.self.inside in
    let t = c.args.table.now in
    let v : SimplexView = record { theory = s.literals; atoms = s.atoms; assignment = c.check_after.new.self; bounds = s.bounds; starts = s.starts.items } in
    let with : IsOf v t = assignment_fits c.args.table.now (record { theory = s.literals; atoms = s.atoms; assignment = s.assignment; bounds = s.bounds; starts = s.starts.items }) c.check_after.new.self c.check_after.ensures.variables c.check_after.ensures.listed
    (subst (λ (v : SimplexView). IsOf v c.args.table.now) (sym c.self.view_is) c.requires.with) in (
      refl,
      (
        subst (λ (w : SimplexView). IsTheoryOver t w.theory) (sym c.self.view_is) c.requires.over,
        (with, (c.requires.log, found v s.assignment c.args.budget.now c.check_after.new.budget c.in-Ok.outcome c.in_default.not-Fine c.in-Ok.ensures.ends)),
      ),
    )

pub returns-in-Ok-clash-clause-with : goal.returns-in-Ok-clash-clause-with
returns-in-Ok-clash-clause-with c =
    let s = c.self.inside in
    let t = c.args.table.now in
    let v : SimplexView = record { theory = s.literals; atoms = s.atoms; assignment = c.check_after.new.self; bounds = s.bounds; starts = s.starts.items } in
    let with : IsOf v t = assignment_fits c.args.table.now (record { theory = s.literals; atoms = s.atoms; assignment = s.assignment; bounds = s.bounds; starts = s.starts.items }) c.check_after.new.self c.check_after.ensures.variables c.check_after.ensures.listed
    (subst (λ (v : SimplexView). IsOf v c.args.table.now) (sym c.self.view_is) c.requires.with) in
    let over = subst (λ (w : SimplexView). IsTheoryOver t w.theory) (sym c.self.view_is) c.requires.over in
    table_grows t c.clash.new.table v c.in-Ok-clash.ensures.derives.table (All-weaker (IsTermIn t) (IsIn t) (λ id k. k.0) s.literals.watched over.terms) with

pub returns-in-Ok-clash-clause-budget : goal.returns-in-Ok-clash-clause-budget
returns-in-Ok-clash-clause-budget c =
    let s = c.self.inside in
    let old = c.args.budget.now in
    let more = spent (ranges_in s.bounds.held) s.assignment c.check_after.new.self old c.check_after.new.budget (Ok c.in-Ok.outcome) c.in-Ok.ensures.ends in
    (more.0, c.check_after.ensures.budget ∙ ap (λ (es : List (ℕ × ℕ)). (let b : BudgetView = record { limit = old.limit; learned = old.learned; exchanges = es } in b)) more.1)

pub returns-in-Ok-clash-clause-ends : goal.returns-in-Ok-clash-clause-ends
returns-in-Ok-clash-clause-ends c = (Ok c.in-Ok.outcome, answers c.in-Ok.outcome _ c.in_default.not-Fine (clash_differs c.in-Ok-clash.step), subst (λ (v : SimplexView). EndsCheck (ranges_in v.bounds.held) v.assignment c.check_after.new.self c.args.budget.now c.check_after.new.budget (Ok c.in-Ok.outcome)) c.self.view_is c.in-Ok.ensures.ends)

pub returns-in-Ok-clash-clause-checks : goal.returns-in-Ok-clash-clause-checks
returns-in-Ok-clash-clause-checks c =
    let t = c.args.table.now in
    subst (λ (w : SimplexView). IsInfeasible (literals_held t w.theory) × DerivesLemmas (terms_watched t w.theory) (derived t c.args.log.now) (derived c.clash.new.table c.clash.new.log) × IsClash c.clash.new.table c.clash.new.log w.theory.held c.in-Ok-clash.step) c.self.view_is
    (c.in-Ok-clash.ensures.infeasible, c.in-Ok-clash.ensures.derives, c.in-Ok-clash.ensures.clash)

pub returns-in-Ok-clash-clause-came : goal.returns-in-Ok-clash-clause-came
returns-in-Ok-clash-clause-came c ts n came =
    let s = c.self.inside in
    let t = c.args.table.now in
    let old : SimplexView = record { theory = s.literals; atoms = s.atoms; assignment = s.assignment; bounds = s.bounds; starts = s.starts.items } in
    let v : SimplexView = record { theory = s.literals; atoms = s.atoms; assignment = c.check_after.new.self; bounds = s.bounds; starts = s.starts.items } in
    let is : IsOf old t = subst (λ (v : SimplexView). IsOf v t) (sym c.self.view_is) c.requires.with in
    let came : CameBy t ts n c.args.budget.now.exchanges old = subst (CameBy t ts n c.args.budget.now.exchanges) (sym c.self.view_is) came in
    let solved = (subst IsTableau c.tableau.ensures c.rows_are_in_solved_form.ensures).solved in
    let on : CameBy t ts (suc n) c.check_after.new.budget.exchanges v =
    came_found t ts old c.check_after.new.self is c.self.invariant.0 solved c.check_after.ensures.listed
    (c.values_solve_the_rows-2.ensures.lengths ∙ c.check_after.ensures.variables ∙ sym c.values_solve_the_rows.ensures.lengths) n c.args.budget.now c.check_after.new.budget came c.in-Ok.outcome c.in-Ok.ensures.ends in
    let over = subst (λ (w : SimplexView). IsTheoryOver t w.theory) (sym c.self.view_is) c.requires.over in
    let with : IsOf v t = assignment_fits t old c.check_after.new.self c.check_after.ensures.variables c.check_after.ensures.listed is in
    came_over_more v t c.clash.new.table c.in-Ok-clash.ensures.derives.table (suits_over t v with over c.are_of_watched_terms.ensures.over) ts (suc n) c.check_after.new.budget.exchanges on

pub returns-in-Err-clash-clause-with : goal.returns-in-Err-clash-clause-with
returns-in-Err-clash-clause-with c =
    let s = c.self.inside in
    let t = c.args.table.now in
    let v : SimplexView = record { theory = s.literals; atoms = s.atoms; assignment = c.check_after.new.self; bounds = s.bounds; starts = s.starts.items } in
    let with : IsOf v t = assignment_fits c.args.table.now (record { theory = s.literals; atoms = s.atoms; assignment = s.assignment; bounds = s.bounds; starts = s.starts.items }) c.check_after.new.self c.check_after.ensures.variables c.check_after.ensures.listed
    (subst (λ (v : SimplexView). IsOf v c.args.table.now) (sym c.self.view_is) c.requires.with) in
    subst (IsOf v) (sym c.in-Err-clash.ensures.same.0) with

pub returns-in-Err-clash-clause-budget : goal.returns-in-Err-clash-clause-budget
returns-in-Err-clash-clause-budget c =
    let s = c.self.inside in
    let old = c.args.budget.now in
    let more = spent (ranges_in s.bounds.held) s.assignment c.check_after.new.self old c.check_after.new.budget (Ok c.in-Ok.outcome) c.in-Ok.ensures.ends in
    (more.0, c.check_after.ensures.budget ∙ ap (λ (es : List (ℕ × ℕ)). (let b : BudgetView = record { limit = old.limit; learned = old.learned; exchanges = es } in b)) more.1)

pub returns-in-Err-clash-clause-ends : goal.returns-in-Err-clash-clause-ends
returns-in-Err-clash-clause-ends c = (Ok c.in-Ok.outcome, answers c.in-Ok.outcome _ c.in_default.not-Fine (stop_differs c.in-Err-clash.stop), subst (λ (v : SimplexView). EndsCheck (ranges_in v.bounds.held) v.assignment c.check_after.new.self c.args.budget.now c.check_after.new.budget (Ok c.in-Ok.outcome)) c.self.view_is c.in-Ok.ensures.ends)

pub returns-in-Err-clash-clause-came : goal.returns-in-Err-clash-clause-came
returns-in-Err-clash-clause-came c ts n came =
    let s = c.self.inside in
    let t = c.args.table.now in
    let old : SimplexView = record { theory = s.literals; atoms = s.atoms; assignment = s.assignment; bounds = s.bounds; starts = s.starts.items } in
    let v : SimplexView = record { theory = s.literals; atoms = s.atoms; assignment = c.check_after.new.self; bounds = s.bounds; starts = s.starts.items } in
    let is : IsOf old t = subst (λ (v : SimplexView). IsOf v t) (sym c.self.view_is) c.requires.with in
    let came : CameBy t ts n c.args.budget.now.exchanges old = subst (CameBy t ts n c.args.budget.now.exchanges) (sym c.self.view_is) came in
    let solved = (subst IsTableau c.tableau.ensures c.rows_are_in_solved_form.ensures).solved in
    let lengths = (c.values_solve_the_rows-2.ensures.lengths ∙ c.check_after.ensures.variables ∙ sym c.values_solve_the_rows.ensures.lengths) in
    let es = c.check_after.new.budget.exchanges in
    subst (λ (u : TableView). CameTo (let r : Result Verdict Stop = Err c.in-Err-clash.stop in r) (λ verdict. CameBy u ts (paid_after verdict n) es v) (StoppedBy u ts n es v))
    (sym c.in-Err-clash.ensures.same.0)
    (stops_there (λ verdict. CameBy t ts (paid_after verdict n) es v) (StoppedBy t ts n es v) c.in-Err-clash.stop
    (stopped_found t ts old c.check_after.new.self is c.self.invariant.0 solved c.check_after.ensures.listed lengths n c.args.budget.now c.check_after.new.budget came c.in-Ok.outcome c.in-Ok.ensures.ends))

pub returns-in-Err-clash-clause-stops : goal.returns-in-Err-clash-clause-stops
returns-in-Err-clash-clause-stops c =
    let s = c.self.inside in
    let t = c.args.table.now in
    let v : SimplexView = record { theory = s.literals; atoms = s.atoms; assignment = c.check_after.new.self; bounds = s.bounds; starts = s.starts.items } in
    let stops = subst (λ (w : SimplexView). StopsBy (λ x. IsOverflowAt t (terms_watched t w.theory) x v) c.in-Err-clash.stop) c.self.view_is c.in-Err-clash.ensures.stops in
    subst (λ (u : TableView). StopsBy (λ x. IsOverflowAt u (terms_watched t c.args.self.now.theory) x v) c.in-Err-clash.stop) (sym c.in-Err-clash.ensures.same.0) stops
