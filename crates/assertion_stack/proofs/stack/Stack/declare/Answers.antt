-- A symbol over the sorts of its parameters.
use Rattle.std.proofs.Common.{◌≡◌, None, [], sym, ap, ◌∙◌, subst}
use Rattle.std.specs.Prelude.{Ok}
use Rattle.spec_sorts.specs.Signatures.{known_as, of_function, declared}
use Rattle.spec_reading.specs.Names.{script, new_name, is_function}
use Rattle.spec_reading.proofs.Sound.{not_taken, unknown}
use Rattle.spec_commands.specs.Stack.{begun, with_declaration, signature_of, roomy}
use Rattle.smt_sexpr.specs.Items.{tree_meant, trees_meant}
use Rattle.smt_sexpr.specs.Views.{word_view}
use Rattle.term_core.specs.Symbols.{HaveSortsIn, sort_meant, sorts_meant, symbol_of}
use Rattle.term_reader.specs.Names.{located_of}
use Rattle.assertion_stack.specs.Stacks.{over_table, Performs}
use Rattle.assertion_stack.proofs.Stacks.{function_refused, parameters_fail, result_refused, function_declared}
use Rattle.assertion_stack.proofs.stack.Stack.declare.Goals as goal

pub returns-in-Err-clause-performs : goal.returns-in-Err-clause-performs
returns-in-Err-clause-performs c limit s h = function_refused limit c.args.at s (word_view c.args.word) (trees_meant c.args.parameters) (tree_meant c.args.sort) (located_of c.in-Err.fault) (sym (c.in-Err.ensures c.args.table.now (signature_of s) h.states.scope))

pub returns-in-Err-sorts_in-clause-performs : goal.returns-in-Err-sorts_in-clause-performs
returns-in-Err-sorts_in-clause-performs c limit s h =
    let t = c.args.table.now in
    let g = signature_of s in
    parameters_fail limit c.args.at s (word_view c.args.word) (trees_meant c.args.parameters) (tree_meant c.args.sort) c.in-Ok.name.now c.in-Err-sorts_in.stop (sym (c.in-Ok.ensures t g h.states.scope)) (c.in-Err-sorts_in.ensures t g h.states.scope)

pub declare_over-requires-clause-new : goal.declare_over-requires-clause-new
declare_over-requires-clause-new c =
    let r = c.requires in
    let g = signature_of r.1 in
    let name = c.in-Ok.name.now in
    (r.0, r.1, r.2, unknown g name (not_taken script (is_function g) (word_view c.args.word) name (sym (c.in-Ok.ensures c.args.table.now g r.2.states.scope))))

pub declare_over-requires-clause-sorts : goal.declare_over-requires-clause-sorts
declare_over-requires-clause-sorts c =
    let r = c.requires in
    let t = c.args.table.now in
    let g = signature_of r.1 in
    (subst (HaveSortsIn t.sorts) (sym c.as_slice.ensures.value) (c.in-Ok-sorts_in.ensures t g r.2.states.scope).0, (c.in-Ok-sort_in.ensures t g r.2.states.scope).0)

pub returns-in-Ok-sort_in-clause-performs : goal.returns-in-Ok-sort_in-clause-performs
returns-in-Ok-sort_in-clause-performs c limit s h =
    let t = c.args.table.now in
    let g = signature_of s in
    let name = c.in-Ok.name.now in
    let named : new_name script (is_function g) (word_view c.args.word) ≡ Ok name = sym (c.in-Ok.ensures t g h.states.scope) in
    let free : known_as g name ≡ None = unknown g name (not_taken script (is_function g) (word_view c.args.word) name named) in
    let sorts = c.in-Ok-sorts_in.ensures t g h.states.scope in
    let sort = c.in-Ok-sort_in.ensures t g h.states.scope in
    let same = ap (λ ps. roomy limit c.args.at [] (begun (with_declaration s (of_function (declared (symbol_of t.sorts name ps c.in-Ok-sort_in.gives)))))) c.as_slice.ensures.value in
    subst (λ a. Performs limit a (over_table c.declare_over.new.table c.declare_over.new.stack) c.declare_over.result)
    (same ∙ sym (function_declared limit c.args.at s (word_view c.args.word) (trees_meant c.args.parameters) (tree_meant c.args.sort) name (sorts_meant t.sorts c.in-Ok-sorts_in.parameters.items) (sort_meant t.sorts c.in-Ok-sort_in.gives) named sorts.1 sort.1))
    (c.declare_over.ensures.performs limit s h free)

pub returns-clause-performs : goal.returns-clause-performs
returns-clause-performs c limit s h =
    let t = c.args.table.now in
    let g = signature_of s in
    result_refused limit c.args.at s (word_view c.args.word) (trees_meant c.args.parameters) (tree_meant c.args.sort) c.in-Ok.name.now (sorts_meant t.sorts c.in-Ok-sorts_in.parameters.items) (located_of c.in-Err-sort_in.fault) (sym (c.in-Ok.ensures t g h.states.scope)) (c.in-Ok-sorts_in.ensures t g h.states.scope).1 (c.in-Err-sort_in.ensures t g h.states.scope)
