-- A `let` opens.
use Rattle.std.proofs.Common.{◌+◌, sym, ap, ◌∙◌, arith}
use Rattle.std.specs.Prelude.{Err}
use Rattle.smt_sexpr.specs.Items.{trees_meant, tree_meant}
use Rattle.term_reader.specs.Names.{setting_meant, located_of}
use Rattle.sort_check.specs.Walks.{here, known_after, let_of, let_left, all_left, frames_left, sizes}
use Rattle.sort_check.proofs.Binding.{waiting_long}
use Rattle.sort_check.proofs.Lets.{let_wrong, let_size}
use Rattle.sort_check.proofs.LetSteps.{let_begins}
use Rattle.sort_check.proofs.Walking.{row_of, next_fault, less_along}
use Rattle.sort_check.proofs.walk.open_let.Goals as goal

pub returns-in_default-clause-goes : goal.returns-in_default-clause-goes
returns-in_default-clause-goes c =
    let w = setting_meant c.args.setting in
    λ t v tree next is root k.
    let h = here t v c.args.walk.now in
    let s = known_after (row_of w root h k) in
    next_fault w root h k tree (trees_meant c.args.after) (located_of c.fault_at.result) next
    (is s k.inner.base.bound ∙ let_wrong w s k.inner.base.bound c.args.at (trees_meant c.args.arguments) (sym c.in_default.ensures.gives) ∙ ap (λ f. Err (located_of f)) (sym c.fault_at.ensures))

pub returns-clause-goes : goal.returns-clause-goes
returns-clause-goes c =
    let w = setting_meant c.args.setting in
    let x = let_of c.in-Some.bindings c.in-Some.body c.len-waited.result c.args.after in
    λ t v tree next is root k.
    let h = here t v c.args.walk.now in
    c.read_bindings.ensures.goes t v root
    (let_begins w root h k tree c.args.at (trees_meant c.args.arguments) x next is (sym c.in-Some.ensures.gives) (c.len-waited.ensures ∙ waiting_long t h.waiting k.inner.waiting c.each_name_has_a_term.ensures k.waiting))

pub returns-clause-less : goal.returns-clause-less
returns-clause-less c =
    λ t v.
    less_along c.read_bindings.result (all_left (here t v c.read_bindings.new.walk)) (2 + let_left (here t v c.args.walk.now) (let_of c.in-Some.bindings c.in-Some.body c.len-waited.result c.args.after)) (frames_left c.args.walk.now.frames.items + (sizes (trees_meant c.args.arguments) + sizes (trees_meant c.args.after))) (c.read_bindings.ensures.less t v)
    (omega (arith, let_size (trees_meant c.args.arguments) (trees_meant c.in-Some.bindings) (tree_meant c.in-Some.body) (sym c.in-Some.ensures.gives)))
