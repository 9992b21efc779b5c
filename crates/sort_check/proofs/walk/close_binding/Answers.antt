-- The term of a binding is read.
use Rattle.std.proofs.Common.{◌+◌, ◌∷◌, [], ◌++◌, length, sym, ap, ◌∙◌, subst, arith}
use Rattle.std.proofs.lemmas.List.{length-append}
use Rattle.term_reader.specs.Names.{setting_meant}
use Rattle.sort_check.specs.Bindings.{BindingsView}
use Rattle.sort_check.specs.Walks.{here, with_frame, let_of, let_left, all_left, IsInLet, opened_left}
use Rattle.sort_check.proofs.LetSteps.{body_alone, one_text_read, waited_before, binding_closes}
use Rattle.sort_check.proofs.Walking.{one_value, less_along, frames_push}
use Rattle.sort_check.proofs.walk.close_binding.Goals as goal

pub index-term-requires : goal.index-term-requires
index-term-requires c =
    let w = setting_meant c.args.setting in
    let e = c.requires.walk in
    let h = here e.0 e.1 c.args.walk.now in
    let k = e.2.1 in
    let one = one_value w e.2.0 h c.args.frame k (record { 0 = 0 }) (one_text_read w e.2.0 h c.args.frame k c.args.name c.args.left c.args.body c.args.waited c.requires.opened) in
    omega (arith, one.0, c.args.walk.now.values.ok.0)

pub read_bindings-requires-clause-one : goal.read_bindings-requires-clause-one
read_bindings-requires-clause-one c =
    let w = setting_meant c.args.setting in
    let e = c.requires.walk in
    body_alone w e.2.0 (here e.0 e.1 c.args.walk.now) c.args.frame e.2.1 c.args.name c.args.left c.args.body c.args.waited c.requires.opened

pub read_bindings-requires-clause-waited : goal.read_bindings-requires-clause-waited
read_bindings-requires-clause-waited c =
    let w = setting_meant c.args.setting in
    let e = c.requires.walk in
    omega (
      arith,
      waited_before w e.2.0 (here e.0 e.1 c.args.walk.now) c.args.frame e.2.1 c.args.name c.args.left c.args.body c.args.waited c.requires.opened c.each_name_has_a_term.ensures,
      ap (λ (v : BindingsView). length v.names) c.in_default.ensures.added,
      length-append c.args.walk.now.waiting.names (c.args.name.now ∷ []),
    )

pub returns-clause-goes : goal.returns-clause-goes
returns-clause-goes c =
    let w = setting_meant c.args.setting in
    let f = c.args.frame in
    let id = c.index-term.result.now in
    λ t v root k.
    let h = here t v c.args.walk.now in
    c.read_bindings.ensures.goes t v root
    (subst (λ ids. IsInLet w root (record h { values = ids; waiting = c.push.new.self }) (let_of c.args.left c.args.body c.args.waited f.after)) (sym c.truncate.ensures.items)
    (binding_closes w root h f k c.args.name c.args.left c.args.body c.args.waited c.requires.opened id c.push.new.self c.each_name_has_a_term.ensures (c.in_default.ensures.added ∙ (λ i. record { names = h.waiting.names ++ c.args.name.now ∷ []; terms = h.waiting.terms ++ c.index-term.ensures i ∷ [] }))))

pub returns-clause-less : goal.returns-clause-less
returns-clause-less c =
    let f = c.args.frame in
    λ t v.
    let h = here t v c.args.walk.now in
    less_along c.read_bindings.result (all_left (here t v c.read_bindings.new.walk)) (2 + let_left h (let_of c.args.left c.args.body c.args.waited f.after)) (all_left (with_frame h f)) (c.read_bindings.ensures.less t v)
    (omega (arith, frames_push h.frames f, ap opened_left c.requires.opened))
