-- A text is refused by its arguments, or else read.
use Rattle.std.proofs.Common.{sym, ap, ◌∙◌, subst}
use Rattle.std.specs.Prelude.{Err}
use Rattle.smt_sexpr.specs.Items.{tree_meant}
use Rattle.term_core.specs.Symbols.{HasSortIn, sort_meant}
use Rattle.term_core.specs.Tables.{TableView}
use Rattle.term_reader.specs.Names.{setting_meant, located_of}
use Rattle.term_reader.specs.Scopes.{HasSignature, ScopeMeans}
use Rattle.sort_check.specs.Reads.{room_meant, roomy_reading, store, Store, EndsTerm}
use Rattle.sort_check.proofs.Restored.{same_grows}
use Rattle.sort_check.proofs.Widening.{grows_along}
use Rattle.sort_check.proofs.distinct.read_fitting.Goals as goal

pub returns-then-cannot_fit-clause-ends : goal.returns-then-cannot_fit-clause-ends
returns-then-cannot_fit-clause-ends c = λ s h. c.cannot_fit.ensures.full c.if-cannot_fit.true s h ∙ ap (λ f. Err (located_of f)) (sym c.fault_at.ensures)

pub returns-then-cannot_fit-clause-grows : goal.returns-then-cannot_fit-clause-grows
returns-then-cannot_fit-clause-grows c = same_grows (store c.args.table.now c.args.scope.now) (store c.cannot_fit.new.table c.cannot_fit.new.scope) c.cannot_fit.ensures.same

pub read_term-requires-clause-known : goal.read_term-requires-clause-known
read_term-requires-clause-known c =
    let same = c.cannot_fit.ensures.same in
    subst (λ (x : Store). HasSignature x.table x.scope) (λ i. (let y : Store = record { table = sym same.table i; scope = sym same.scope i } in y)) c.requires.known

pub read_term-requires-clause-sort : goal.read_term-requires-clause-sort
read_term-requires-clause-sort c = subst (λ (t : TableView). HasSortIn t.sorts c.args.sort) (sym c.cannot_fit.ensures.same.table) c.requires.sort

pub returns-clause-ends : goal.returns-clause-ends
returns-clause-ends c =
    let same = c.cannot_fit.ensures.same in
    let w = setting_meant c.args.setting in
    let t = tree_meant c.args.tree in
    let new = store c.read_term.new.table c.read_term.new.scope in
    λ s h.
    subst (λ (x : TableView). EndsTerm s new (roomy_reading (room_meant c.args.room) w s (sort_meant x.sorts c.args.sort) t) c.read_term.result) same.table
    (c.read_term.ensures.ends s (subst (λ (x : Store). ScopeMeans x.table x.scope s) (λ i. (let y : Store = record { table = sym same.table i; scope = sym same.scope i } in y)) h))

pub returns-clause-grows : goal.returns-clause-grows
returns-clause-grows c =
    grows_along (store c.args.table.now c.args.scope.now) (store c.cannot_fit.new.table c.cannot_fit.new.scope) (store c.read_term.new.table c.read_term.new.scope)
    (same_grows (store c.args.table.now c.args.scope.now) (store c.cannot_fit.new.table c.cannot_fit.new.scope) c.cannot_fit.ensures.same) c.read_term.ensures.grows
