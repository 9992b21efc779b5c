-- A list opens, or has a fault of its shape.
use Rattle.std.proofs.Common.{◌+◌, ◌∷◌, [], ◌++◌, refl, sym, ap, ◌∙◌, arith}
use Rattle.std.specs.Prelude.{Err}
use Rattle.spec_text.specs.Trees.{list}
use Rattle.spec_reading.specs.Reading.{reading}
use Rattle.smt_sexpr.specs.Items.{trees_meant, tree_meant}
use Rattle.smt_sexpr.proofs.Splitting.{split_end, split_more}
use Rattle.term_reader.specs.Names.{setting_meant, located_of}
use Rattle.sort_check.specs.declared.applied.Called.{Called}
use Rattle.sort_check.specs.declared.frames.Opened.TheVariants.{Applies}
use Rattle.sort_check.specs.declared.frames.Frame.{Frame}
use Rattle.sort_check.specs.Walks.{here, known_after, all_left, frames_left, sizes}
use Rattle.sort_check.proofs.Opening.{empty_is, malformed_is, reserved_is, applied_opens, let_is, annotated_is}
use Rattle.sort_check.proofs.Walking.{row_of, next_fault, open_goes, ends_by, less_by, less_along, frames_push}
use Rattle.sort_check.proofs.walk.open_list.Goals as goal

pub returns-in_default-clause-goes : goal.returns-in_default-clause-goes
returns-in_default-clause-goes c =
    let w = setting_meant c.args.setting in
    λ t v end next root k.
    let h = here t v c.args.walk.now in
    let s = known_after (row_of w root h k) in
    let b = k.inner.base.bound in
    next_fault w root h k (list c.args.at (trees_meant c.args.inside) end) (trees_meant c.args.after) (located_of c.fault_at.result) next
    (ap (λ us. reading w s b (list c.args.at us end)) (split_end (trees_meant c.args.inside) c.in_default.ensures.first) ∙ empty_is w s b c.args.at end ∙ ap (λ f. Err (located_of f)) (sym c.fault_at.ensures))

pub returns-in-Malformed-clause-goes : goal.returns-in-Malformed-clause-goes
returns-in-Malformed-clause-goes c =
    let w = setting_meant c.args.setting in
    let head = tree_meant c.in-Some.head in
    let us = trees_meant c.in-Some.arguments in
    λ t v end next root k.
    let h = here t v c.args.walk.now in
    let s = known_after (row_of w root h k) in
    let b = k.inner.base.bound in
    next_fault w root h k (list c.args.at (trees_meant c.args.inside) end) (trees_meant c.args.after) (located_of c.fault_at-in-Malformed.result) next
    (ap (λ ts. reading w s b (list c.args.at ts end)) (split_more (trees_meant c.args.inside) us head c.in-Some.ensures.first) ∙ malformed_is w s b c.args.at end head us (sym c.in-Malformed.ensures) ∙ ap (λ f. Err (located_of f)) (sym c.fault_at-in-Malformed.ensures))

pub returns-in-Reserved-clause-goes : goal.returns-in-Reserved-clause-goes
returns-in-Reserved-clause-goes c =
    let w = setting_meant c.args.setting in
    let head = tree_meant c.in-Some.head in
    let us = trees_meant c.in-Some.arguments in
    λ t v end next root k.
    let h = here t v c.args.walk.now in
    let s = known_after (row_of w root h k) in
    let b = k.inner.base.bound in
    next_fault w root h k (list c.args.at (trees_meant c.args.inside) end) (trees_meant c.args.after) (located_of c.fault_at-in-Reserved.result) next
    (ap (λ ts. reading w s b (list c.args.at ts end)) (split_more (trees_meant c.args.inside) us head c.in-Some.ensures.first) ∙ reserved_is w s b c.args.at end c.in-Reserved.place head us (sym c.in-Reserved.ensures) ∙ ap (λ f. Err (located_of f)) (sym c.fault_at-in-Reserved.ensures))

pub returns-in-Applies-clause-goes : goal.returns-in-Applies-clause-goes
returns-in-Applies-clause-goes c =
    let w = setting_meant c.args.setting in
    let head = tree_meant c.in-Some.head in
    let us = trees_meant c.in-Some.arguments in
    let called : Called = record { at = c.args.at; place = c.in-Applies.place; name = c.in-Applies.name } in
    let f : Frame = record { opened = Applies called; from = c.len-from.result; after = c.args.after } in
    λ t v end next root k.
    let h = here t v c.args.walk.now in
    let s = known_after (row_of w root h k) in
    let b = k.inner.base.bound in
    ends_by w root (here t v c.open.new.walk) (record h { frames = h.frames ++ f ∷ []; rest = us }) c.open.result (c.open.ensures.opened t v) c.open.ensures.memory
    (open_goes w root h k (list c.args.at (trees_meant c.args.inside) end) f us next (omega (arith, c.len-from.ensures, c.args.walk.now.values.ok.0)) refl refl tt
    (ap (λ ts. reading w s b (list c.args.at ts end)) (split_more (trees_meant c.args.inside) us head c.in-Some.ensures.first) ∙ applied_opens w s b c.args.at end head us called refl (sym c.in-Applies.ensures) (k.inner.below ++ k.done) k.inner.waiting))

pub returns-in-Applies-clause-less : goal.returns-in-Applies-clause-less
returns-in-Applies-clause-less c =
    let head = tree_meant c.in-Some.head in
    let us = trees_meant c.in-Some.arguments in
    let called : Called = record { at = c.args.at; place = c.in-Applies.place; name = c.in-Applies.name } in
    let f : Frame = record { opened = Applies called; from = c.len-from.result; after = c.args.after } in
    λ t v.
    let h = here t v c.args.walk.now in
    less_by (here t v c.open.new.walk) (record h { frames = h.frames ++ f ∷ []; rest = us }) c.open.result _ (c.open.ensures.opened t v)
    (omega (arith, frames_push h.frames f, ap sizes (split_more (trees_meant c.args.inside) us head c.in-Some.ensures.first)))

pub returns-in-Binds-clause-goes : goal.returns-in-Binds-clause-goes
returns-in-Binds-clause-goes c =
    let w = setting_meant c.args.setting in
    let head = tree_meant c.in-Some.head in
    let us = trees_meant c.in-Some.arguments in
    λ t v end next root k.
    c.open_let.ensures.goes t v (list c.args.at (trees_meant c.args.inside) end) next
    (λ s b. ap (λ ts. reading w s b (list c.args.at ts end)) (split_more (trees_meant c.args.inside) us head c.in-Some.ensures.first) ∙ let_is w s b c.args.at end head us (sym c.in-Binds.ensures)) root k

pub returns-in-Binds-clause-less : goal.returns-in-Binds-clause-less
returns-in-Binds-clause-less c =
    let head = tree_meant c.in-Some.head in
    let us = trees_meant c.in-Some.arguments in
    λ t v.
    less_along c.open_let.result (all_left (here t v c.open_let.new.walk)) (frames_left c.args.walk.now.frames.items + (sizes us + sizes (trees_meant c.args.after))) (2 + (frames_left c.args.walk.now.frames.items + (sizes (trees_meant c.args.inside) + sizes (trees_meant c.args.after)))) (c.open_let.ensures.less t v)
    (omega (arith, ap sizes (split_more (trees_meant c.args.inside) us head c.in-Some.ensures.first)))

pub returns-in-Annotates-clause-goes : goal.returns-in-Annotates-clause-goes
returns-in-Annotates-clause-goes c =
    let w = setting_meant c.args.setting in
    let head = tree_meant c.in-Some.head in
    let us = trees_meant c.in-Some.arguments in
    λ t v end next root k.
    c.open_annotated.ensures.goes w t v (list c.args.at (trees_meant c.args.inside) end) next
    (λ s b. ap (λ ts. reading w s b (list c.args.at ts end)) (split_more (trees_meant c.args.inside) us head c.in-Some.ensures.first) ∙ annotated_is w s b c.args.at end head us (sym c.in-Annotates.ensures)) root k

pub returns-in-Annotates-clause-less : goal.returns-in-Annotates-clause-less
returns-in-Annotates-clause-less c =
    let head = tree_meant c.in-Some.head in
    let us = trees_meant c.in-Some.arguments in
    λ t v.
    less_along c.open_annotated.result (all_left (here t v c.open_annotated.new.walk)) (2 + (frames_left c.args.walk.now.frames.items + (sizes us + sizes (trees_meant c.args.after)))) (2 + (frames_left c.args.walk.now.frames.items + (sizes (trees_meant c.args.inside) + sizes (trees_meant c.args.after)))) (c.open_annotated.ensures.less t v)
    (omega (arith, ap sizes (split_more (trees_meant c.args.inside) us head c.in-Some.ensures.first)))
