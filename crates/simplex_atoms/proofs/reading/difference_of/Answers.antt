-- That the difference has this form, or why it has none.
use Rattle.spec_simplex.specs.Constraints.{form_of}
use Rattle.term_core.specs.Tables.{term_at}
use Rattle.linear_form.specs.Meant.{form_meant}
use Rattle.simplex_atoms.specs.Stops.{of_fault, of_join}
use Rattle.simplex_atoms.specs.Watching.{constraint_meant}
use Rattle.simplex_atoms.proofs.AtomsRead.{forms_err, left_stops, right_stops, join_stops, made}
use Rattle.simplex_atoms.proofs.reading.difference_of.Goals as goal

pub returns-in_err-left-clause-exact : goal.returns-in_err-left-clause-exact
returns-in_err-left-clause-exact c =
    let t = c.args.table.now in
    let s = c.args.sides in
    let x = c.in_err-left.field-0.0 in
    forms_err t (form_of (constraint_meant t s)) c.from_residual.result (of_fault x)
    (left_stops (term_at t s.atom) (term_at t s.left) (term_at t s.right) t x c.in_err-left.ensures.exact) c.from_residual.ensures.1

pub returns-in_err-right-clause-exact : goal.returns-in_err-right-clause-exact
returns-in_err-right-clause-exact c =
    let t = c.args.table.now in
    let s = c.args.sides in
    let x = c.in_err-right.field-0.0 in
    forms_err t (form_of (constraint_meant t s)) c.from_residual-in_err-right.result (of_fault x)
    (right_stops (term_at t s.atom) (term_at t s.left) (term_at t s.right) t (form_meant t c.in_ok-left.left) c.in_ok-left.ensures.exact x c.in_err-right.ensures.exact)
    c.from_residual-in_err-right.ensures.1

pub returns-in_err-combine-clause-exact : goal.returns-in_err-combine-clause-exact
returns-in_err-combine-clause-exact c =
    let t = c.args.table.now in
    let s = c.args.sides in
    let x = c.in_err-combine.field-0.0 in
    forms_err t (form_of (constraint_meant t s)) c.from_residual-in_err-combine.result (of_join x)
    (join_stops (term_at t s.atom) (term_at t s.left) (term_at t s.right) t (form_meant t c.in_ok-left.left) c.in_ok-left.ensures.exact
    (form_meant t c.in_ok-right.right) c.in_ok-right.ensures.exact x
    (c.in_err-combine.ensures.comes t c.ids_are_unique.ensures c.in_ok-left.ensures.there c.in_ok-right.ensures.there)) c.from_residual-in_err-combine.ensures.1

pub returns-clause-exact : goal.returns-clause-exact
returns-clause-exact c =
    let t = c.args.table.now in
    let s = c.args.sides in
    made (term_at t s.atom) (term_at t s.left) (term_at t s.right) t (form_meant t c.in_ok-left.left) c.in_ok-left.ensures.exact
    (form_meant t c.in_ok-right.right) c.in_ok-right.ensures.exact (form_meant t c.combine.new.e)
    (c.in_ok-combine.ensures.comes t c.ids_are_unique.ensures c.in_ok-left.ensures.there c.in_ok-right.ensures.there)
