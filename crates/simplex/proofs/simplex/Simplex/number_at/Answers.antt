-- The variable means the term.
use Rattle.std.proofs.Common.{IfErr, subst}
use Rattle.spec_causes.specs.Causes.{OverflowsValueAt}
use Rattle.ratio128.specs.Meant.{overflow}
use Rattle.term_core.specs.Tables.{TableView}
use Rattle.tableau.specs.Numbers.{number_of}
use Rattle.simplex_atoms.specs.Owners.{IsNumberOf}
use Rattle.simplex.specs.Views.{SimplexView}
use Rattle.simplex.specs.Coming.{term_tableau_of}
use Rattle.simplex.proofs.TermNumbers.{value_overflowing}
use Rattle.simplex.proofs.simplex.Simplex.number_at.Goals as goal

pub returns-in-Some-clause-wide : goal.returns-in-Some-clause-wide
returns-in-Some-clause-wide c =
    let s = c.self.inside in
    let v : SimplexView = record { theory = s.literals; atoms = s.atoms; assignment = s.assignment; bounds = s.bounds; starts = s.starts.items } in
    subst (λ (w : SimplexView). IfErr c.value_at.result (λ x. (t : TableView) → OverflowsValueAt (number_of c.args.e) (term_tableau_of t w) (overflow x))) c.self.view_is
    (value_overflowing v c.args.e c.args.id c.in-Some.y c.value.result c.value_at.result (subst (IsNumberOf s.atoms.owners c.args.id) c.in-Some.is c.var.ensures) c.value.ensures c.value_at.ensures.wide)
