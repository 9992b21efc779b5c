-- The next of bindings, or the body.
use Rattle.std.proofs.Common.{◌∷◌, [], ◌++◌, refl, sym, ap, ◌∙◌, arith}
use Rattle.spec_reading.specs.Names.{is_in_list}
use Rattle.spec_reading.specs.Reading.{bound_names}
use Rattle.smt_sexpr.specs.Items.{trees_meant, tree_meant}
use Rattle.smt_sexpr.specs.Views.{word_view}
use Rattle.term_reader.specs.Names.{setting_meant, located_of}
use Rattle.sort_check.specs.declared.frames.Opened.TheVariants.{Binds, Body}
use Rattle.sort_check.specs.declared.frames.Frame.{Frame}
use Rattle.sort_check.specs.Walks.{here, let_of, sizes}
use Rattle.sort_check.proofs.NamesGiven.{fresh_is}
use Rattle.sort_check.proofs.Lets.{binding_size}
use Rattle.sort_check.proofs.Binding.{bound_long}
use Rattle.sort_check.proofs.LetSteps.{earlier_names, name_fault, binding_goes, body_goes}
use Rattle.sort_check.proofs.Walking.{ends_by, less_by, frames_push}
use Rattle.sort_check.proofs.walk.read_bindings.Goals as goal

pub returns-in-Err-clause-goes : goal.returns-in-Err-clause-goes
returns-in-Err-clause-goes c =
    let w = setting_meant c.args.setting in
    let y = word_view c.in-Some.word in
    let x = let_of c.args.bindings c.args.body c.args.waited c.args.after in
    λ t v root k.
    let h = here t v c.args.walk.now in
    let long = c.each_name_has_a_term.ensures in
    name_fault w root h x k long y (tree_meant c.in-Some.term) (trees_meant c.in-Some.left) (located_of c.in-Err.fault) (sym c.in-Some.ensures.gives)
    (sym (fresh_is w (is_in_list (bound_names k.earlier)) c.is_taken-taken.result y (c.is_taken-taken.ensures ∙ ap (λ ns. is_in_list ns y.bytes) (sym (earlier_names w root h x k long)))) ∙ sym c.in-Err.ensures)

pub returns-in-Ok-clause-goes : goal.returns-in-Ok-clause-goes
returns-in-Ok-clause-goes c =
    let w = setting_meant c.args.setting in
    let y = word_view c.in-Some.word in
    let x = let_of c.args.bindings c.args.body c.args.waited c.args.after in
    let f : Frame = record { opened = Binds c.in-Ok.name c.in-Some.left c.args.body c.args.waited; from = c.len-from.result; after = c.args.after } in
    λ t v root k.
    let h = here t v c.args.walk.now in
    let long = c.each_name_has_a_term.ensures in
    ends_by w root (here t v c.open.new.walk) (record h { frames = h.frames ++ f ∷ []; rest = trees_meant c.in-Some.term }) c.open.result (c.open.ensures.opened t v) c.open.ensures.memory
    (binding_goes w root h x k long y (tree_meant c.in-Some.term) f f.opened (trees_meant c.in-Some.term) refl c.in-Ok.name.now c.in-Some.left c.args.body (sym c.in-Some.ensures.gives)
    (sym (fresh_is w (is_in_list (bound_names k.earlier)) c.is_taken-taken.result y (c.is_taken-taken.ensures ∙ ap (λ ns. is_in_list ns y.bytes) (sym (earlier_names w root h x k long)))) ∙ sym c.in-Ok.ensures)
    refl c.requires.one refl (omega (arith, c.len-from.ensures, c.args.walk.now.values.ok.0)) c.in-Some.ensures.alone (λ m r. refl) refl (k.earlier, refl, k.waited) ((tree_meant c.in-Some.term, refl), c.requires.one))

pub returns-in-Ok-clause-less : goal.returns-in-Ok-clause-less
returns-in-Ok-clause-less c =
    let f : Frame = record { opened = Binds c.in-Ok.name c.in-Some.left c.args.body c.args.waited; from = c.len-from.result; after = c.args.after } in
    λ t v.
    let h = here t v c.args.walk.now in
    less_by (here t v c.open.new.walk) (record h { frames = h.frames ++ f ∷ []; rest = trees_meant c.in-Some.term }) c.open.result _ (c.open.ensures.opened t v)
    (omega (arith, frames_push h.frames f, ap sizes c.in-Some.ensures.alone, binding_size (trees_meant c.args.bindings) (word_view c.in-Some.word) (tree_meant c.in-Some.term) (trees_meant c.in-Some.left) (sym c.in-Some.ensures.gives)))

pub returns-in_default-clause-goes : goal.returns-in_default-clause-goes
returns-in_default-clause-goes c =
    let w = setting_meant c.args.setting in
    let x = let_of c.args.bindings c.args.body c.args.waited c.args.after in
    let f : Frame = record { opened = Body c.len-bound.result; from = c.len-from.result; after = c.args.after } in
    λ t v root k.
    let h = here t v c.args.walk.now in
    let long = c.each_name_has_a_term.ensures in
    let also = c.each_name_has_a_term-2.ensures in
    ends_by w root (here t v c.open-in-None.new.walk) (record h { frames = h.frames ++ f ∷ []; bound = c.bind_waiting.new.bound; waiting = c.bind_waiting.new.waiting; rest = trees_meant c.args.body }) c.open-in-None.result (c.open-in-None.ensures.opened t v) c.open-in-None.ensures.memory
    (body_goes w root h x k long also f f.opened (trees_meant c.args.body) c.bind_waiting.new.waiting c.bind_waiting.new.bound refl (sym c.in-None.ensures.gives) c.in_default.ensures refl (omega (arith, c.len-from.ensures, c.args.walk.now.values.ok.0)) c.requires.one (λ m r. refl)
    (k.earlier, refl, omega (arith, c.len-bound.ensures, bound_long t h.bound k.level.base.bound also k.bound)) refl (tree_meant c.args.body, refl))

pub returns-in_default-clause-less : goal.returns-in_default-clause-less
returns-in_default-clause-less c =
    let f : Frame = record { opened = Body c.len-bound.result; from = c.len-from.result; after = c.args.after } in
    λ t v.
    let h = here t v c.args.walk.now in
    less_by (here t v c.open-in-None.new.walk) (record h { frames = h.frames ++ f ∷ []; bound = c.bind_waiting.new.bound; waiting = c.bind_waiting.new.waiting; rest = trees_meant c.args.body }) c.open-in-None.result _ (c.open-in-None.ensures.opened t v)
    (omega (arith, frames_push h.frames f, ap sizes c.requires.one))
