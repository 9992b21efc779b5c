-- The terms of a list are read, and its own.
use Rattle.std.proofs.Common.{◌∷◌, [], ◌++◌, length, take, drop, ap, ◌∙◌, arith}
use Rattle.smt_sexpr.specs.Items.{trees_meant}
use Rattle.sort_check.specs.Walks.{here}
use Rattle.sort_check.proofs.Walking.{row_inside, ends_by, less_by, frames_push}
use Rattle.sort_check.proofs.Closing.{applied_closes, applied_stops}
use Rattle.sort_check.proofs.walk.close_applied.Goals as goal

pub values_from-requires : goal.values_from-requires
values_from-requires c =
    let e = c.requires.walk in
    let h = here c.args.table.now c.args.scope.now c.args.walk.now in
    omega (arith, row_inside e.0 e.1.0 h c.args.frame e.1.1, ap length c.as_slice.ensures.value)

pub returns-in-Ok-clause-goes : goal.returns-in-Ok-clause-goes
returns-in-Ok-clause-goes c =
    let t = c.args.table.now in
    let u = c.applied.new.table in
    let v = c.args.scope.now in
    let h = here t v c.args.walk.now in
    let id = c.in-Ok.id in
    let f = c.args.frame in
    λ w root k.
    ends_by w root (here u v c.replace.new.walk) (record h { table = u; values = take f.from h.values ++ id ∷ []; rest = trees_meant f.after }) c.replace.result (c.replace.ensures.replaced u v) c.replace.ensures.memory
    (applied_closes w root h f k c.args.called c.requires.opened u id c.values_from.result.now (c.values_from.ensures ∙ ap (drop f.from) c.as_slice.ensures.value) c.in-Ok.ensures)

pub returns-in-Ok-clause-less : goal.returns-in-Ok-clause-less
returns-in-Ok-clause-less c =
    let t = c.args.table.now in
    let u = c.applied.new.table in
    let v = c.args.scope.now in
    let h = here t v c.args.walk.now in
    let id = c.in-Ok.id in
    let f = c.args.frame in
    less_by (here u v c.replace.new.walk) (record h { table = u; values = take f.from h.values ++ id ∷ []; rest = trees_meant f.after }) c.replace.result _ (c.replace.ensures.replaced u v) (omega (arith, frames_push h.frames f))

pub returns-in-Err-clause-goes : goal.returns-in-Err-clause-goes
returns-in-Err-clause-goes c =
    let t = c.args.table.now in
    let v = c.args.scope.now in
    let h = here t v c.args.walk.now in
    let f = c.args.frame in
    λ w root k.
    applied_stops w root h f k c.args.called c.requires.opened c.applied.new.table c.values_from.result.now (c.values_from.ensures ∙ ap (drop f.from) c.as_slice.ensures.value) c.in-Err.stop c.in-Err.ensures
