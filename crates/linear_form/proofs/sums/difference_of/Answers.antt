-- That the difference has this form, or why it has none.
use Rattle.term_core.specs.Tables.{term_at}
use Rattle.linear_form.specs.Meant.{form_meant}
use Rattle.linear_form.specs.Sums.{difference_meant, stop_by}
use Rattle.linear_form.proofs.Joining.{makes_err}
use Rattle.linear_form.proofs.SumSteps.{difference_made, difference_fails, left_stops, right_stops}
use Rattle.linear_form.proofs.sums.difference_of.Goals as goal

pub returns-in_err-left-clause-comes : goal.returns-in_err-left-clause-comes
returns-in_err-left-clause-comes c =
    let t = c.args.table.now in
    let n = c.args.n in
    let f = c.in_err-left.field-0.0 in
    makes_err (difference_meant t n) c.from_residual.result (stop_by f) (form_meant t)
    (left_stops (term_at t n.atom) (term_at t n.left) (term_at t n.right) t f c.in_err-left.ensures.exact) c.from_residual.ensures.1

pub returns-in_err-right-clause-comes : goal.returns-in_err-right-clause-comes
returns-in_err-right-clause-comes c =
    let t = c.args.table.now in
    let n = c.args.n in
    let f = c.in_err-right.field-0.0 in
    makes_err (difference_meant t n) c.from_residual-in_err-right.result (stop_by f) (form_meant t)
    (right_stops (term_at t n.atom) (term_at t n.left) (term_at t n.right) t (form_meant t c.in_ok-left.left) f c.in_ok-left.ensures.exact c.in_err-right.ensures.exact) c.from_residual-in_err-right.ensures.1

pub returns-in_err-combine-clause-comes : goal.returns-in_err-combine-clause-comes
returns-in_err-combine-clause-comes c =
    let t = c.args.table.now in
    let n = c.args.n in
    let s = c.in_err-combine.field-0.0 in
    makes_err (difference_meant t n) c.from_residual-in_err-combine.result s (form_meant t)
    (difference_fails (term_at t n.atom) (term_at t n.left) (term_at t n.right) (form_meant t c.in_ok-left.left) (form_meant t c.in_ok-right.right) s c.in_ok-left.ensures.exact c.in_ok-right.ensures.exact
    (c.in_err-combine.ensures.comes t c.ids_are_unique.ensures c.in_ok-left.ensures.there c.in_ok-right.ensures.there)) c.from_residual-in_err-combine.ensures.1

pub returns-clause-comes : goal.returns-clause-comes
returns-clause-comes c =
    let t = c.args.table.now in
    let n = c.args.n in
    difference_made (term_at t n.atom) (term_at t n.left) (term_at t n.right) (form_meant t c.in_ok-left.left) (form_meant t c.in_ok-right.right) (form_meant t c.combine.new.e) c.in_ok-left.ensures.exact c.in_ok-right.ensures.exact
    (c.in_ok-combine.ensures.comes t c.ids_are_unique.ensures c.in_ok-left.ensures.there c.in_ok-right.ensures.there)
