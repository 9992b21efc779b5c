-- The body of a `let` is read.
use Rattle.std.proofs.Common.{◌∷◌, [], ◌++◌, take, get_or, subst, arith}
use Rattle.smt_sexpr.specs.Items.{trees_meant}
use Rattle.sort_check.specs.Walks.{here, HasTexts}
use Rattle.sort_check.proofs.Walking.{popped, one_value, ends_by, less_by, on_along, frames_push}
use Rattle.sort_check.proofs.Closing.{body_closes}
use Rattle.sort_check.proofs.walk.close_body.Goals as goal

pub index-id-requires : goal.index-id-requires
index-id-requires c =
    let e = c.requires.walk in
    let h = here e.1 e.2 c.args.walk.now in
    let k = e.3.1 in
    let one = one_value e.0 e.3.0 h c.args.frame k (record { 0 = 0 }) (subst (λ p. HasTexts p k.inner.base.texts) c.requires.opened (popped e.0 e.3.0 h c.args.frame k).opens.texts) in
    omega (arith, one.0, c.args.walk.now.values.ok.0)

pub returns-clause-goes : goal.returns-clause-goes
returns-clause-goes c =
    let f = c.args.frame in
    let id = c.index-id.result.now in
    λ w t v root k.
    let h = here t v c.args.walk.now in
    ends_by w root (here t v c.replace.new.walk) (record h { values = take f.from h.values ++ get_or h.values f.from id ∷ []; bound = c.back.new.self; rest = trees_meant f.after }) c.replace.result
    (on_along c.replace.result (here t v c.replace.new.walk) (record h { values = take f.from h.values ++ id ∷ []; bound = c.back.new.self; rest = trees_meant f.after }) (record h { values = take f.from h.values ++ get_or h.values f.from id ∷ []; bound = c.back.new.self; rest = trees_meant f.after }) (c.replace.ensures.replaced t v)
    (λ i. record h { values = take f.from h.values ++ c.index-id.ensures i ∷ []; bound = c.back.new.self; rest = trees_meant f.after })) c.replace.ensures.memory
    (body_closes w root h f k c.args.bound c.requires.opened id c.back.new.self c.each_name_has_a_term.ensures c.back.ensures)

pub returns-clause-less : goal.returns-clause-less
returns-clause-less c =
    let f = c.args.frame in
    let id = c.index-id.result.now in
    λ t v.
    let h = here t v c.args.walk.now in
    less_by (here t v c.replace.new.walk) (record h { values = take f.from h.values ++ id ∷ []; bound = c.back.new.self; rest = trees_meant f.after }) c.replace.result _ (c.replace.ensures.replaced t v) (omega (arith, frames_push h.frames f))
