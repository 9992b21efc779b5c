use Rattle.std.proofs.Common.{ap, sym, ◌∙◌, subst}
use Rattle.spec_tableaux.specs.Spaces.{as_space}
use Rattle.spec_tableaux.specs.Rows.{Row}
use Rattle.spec_tableaux.specs.SolvedForms.{IsTidy}
use Rattle.spec_tableaux.specs.Numbers.{Number, numbers}
use Rattle.spec_tableaux.proofs.SolvedForms.{tidy_row}
use Rattle.simplex_check.proofs.assignment.RealAssignment.move_of.Goals as goal

pub find_entering-requires : goal.find_entering-requires
find_entering-requires c =
    subst (IsTidy numbers 0) (sym (c.entries.ensures ∙ ap (λ (r : Row Number). r.entries) (sym c.in-Some.ensures.row.2)))
    (tidy_row (as_space numbers) c.args.leaving c.self.inside.tableau.rows c.rows_are_in_solved_form.ensures.solved.tidy)
