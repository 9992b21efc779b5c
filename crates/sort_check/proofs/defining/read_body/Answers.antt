-- The body of a definition.
use Rattle.std.proofs.Common.{sym, ap, subst}
use Rattle.spec_reading.specs.Reading.{Bound, reading_of_sort}
use Rattle.spec_sorts.specs.Terms.{Sort}
use Rattle.smt_sexpr.specs.Items.{tree_meant}
use Rattle.term_core.specs.Symbols.{HasSortIn, sort_meant}
use Rattle.term_reader.specs.Names.{setting_meant}
use Rattle.term_reader.proofs.OverTable.{meaning_kept}
use Rattle.sort_check.specs.Reads.{store}
use Rattle.sort_check.specs.Rows.{EndsOne}
use Rattle.sort_check.proofs.Widening.{widens_same, grows_along}
use Rattle.sort_check.proofs.defining.read_body.Goals as goal

pub returns-in-Err-clause-grows : goal.returns-in-Err-clause-grows
returns-in-Err-clause-grows c = record { keeps = c.bind_parameters.ensures.keeps; widens = widens_same c.args.scope.now }

pub read_of_sort-requires-clause-known : goal.read_of_sort-requires-clause-known
read_of_sort-requires-clause-known c =
    let e = c.requires.known in
    (e.0, meaning_kept c.args.table.now c.bind_parameters.new.table c.bind_parameters.ensures.keeps c.args.scope.now e.0 e.1)

pub read_of_sort-requires-clause-sort : goal.read_of_sort-requires-clause-sort
read_of_sort-requires-clause-sort c = subst (λ ss. HasSortIn ss c.args.sort) (sym (ap (λ d. d.sorts) c.bind_parameters.ensures.keeps.declared)) c.requires.sort

pub returns-in-Ok-clause-ends : goal.returns-in-Ok-clause-ends
returns-in-Ok-clause-ends c =
    let keeps = c.bind_parameters.ensures.keeps in
    let sorts = ap (λ d. d.sorts) keeps.declared in
    let w = setting_meant c.args.setting in
    let t = tree_meant c.args.body in
    let new = store c.read_of_sort.new.table c.read_of_sort.new.scope in
    λ s h.
    subst (λ (ss : Bound × Sort). EndsOne s new (reading_of_sort w s ss.0 ss.1 t) c.read_of_sort.result) (λ i. (c.in-Ok.ensures.ends.1 i, sort_meant (sorts i) c.args.sort))
    (c.read_of_sort.ensures.ends s (meaning_kept c.args.table.now c.bind_parameters.new.table keeps c.args.scope.now s h))

pub returns-in-Ok-clause-grows : goal.returns-in-Ok-clause-grows
returns-in-Ok-clause-grows c =
    grows_along (store c.args.table.now c.args.scope.now) (store c.bind_parameters.new.table c.args.scope.now) (store c.read_of_sort.new.table c.read_of_sort.new.scope)
    (record { keeps = c.bind_parameters.ensures.keeps; widens = widens_same c.args.scope.now }) c.read_of_sort.ensures.grows
