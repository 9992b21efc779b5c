-- What comes of the form of an atom.
use Rattle.std.proofs.Common.{◌≡◌, sym}
use Rattle.std.specs.Prelude.{Some}
use Rattle.spec_simplex.specs.Constraints.{constraint_of}
use Rattle.term_core.specs.Tables.{term_at, positive_literal}
use Rattle.simplex_atoms.specs.Watching.{constraint_meant}
use Rattle.solve_core.proofs.SearchForms.{has_form}
use Rattle.solve_core.proofs.forms.form_overflow.Goals.{in-Ok, in-Err-Wide, in-Err-Memory}
use Rattle.solve_core.proofs.forms.form_overflow.Goals as goal

pub returns : goal.returns
returns c =
    let t = c.args.table.now in
    let u = term_at t c.args.id in
    let own = constraint_meant t c.in-Some.sides in
    let means : Some own ≡ constraint_of (positive_literal u) = c.in-Some.ensures.means in
    elim c.match-difference_of.branch [
      | in-Ok w ↦ rw w.result-is (has_form u own _ means w.in-Ok.ensures.exact)
      | in-Err-Wide w ↦
          let comes = rw w.in-Err-Wide.field-0-is at w.in-Err-Wide.ensures.exact in
          rw w.result-is (record { constraint = own; says = sym means; fault = comes.0; fails = comes.1; is = comes.2 })
      | in-Err-Memory w ↦ rw w.result-is tt
    ]
