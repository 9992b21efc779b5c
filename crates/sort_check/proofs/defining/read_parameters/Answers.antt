-- The parameters of a definition, one after the other.
use Rattle.std.proofs.Common.{◌<◌, [], ◌∷◌, ◌++◌, sym, ◌∙◌, subst, arith}
use Rattle.spec_reading.specs.Names.{is_in_list}
use Rattle.smt_sexpr.specs.Items.{trees_meant, tree_meant}
use Rattle.smt_sexpr.specs.Views.{word_view}
use Rattle.term_reader.specs.Names.{setting_meant, located_of}
use Rattle.sort_check.specs.Walks.{sizes}
use Rattle.sort_check.proofs.NamesGiven.{fresh_is}
use Rattle.sort_check.proofs.Lets.{binding_size}
use Rattle.sort_check.proofs.Parameters.{AreRead, parameters_begin, parameters_end, name_wrong, sort_wrong, parameters_go}
use Rattle.sort_check.proofs.defining.read_parameters.Goals as goal

pub parameters-init : goal.parameters-init
parameters-init c =
    let w = setting_meant c.args.setting in
    let all = trees_meant c.args.parameters in
    λ t s h.
    subst (λ ns. AreRead w s all all t ns c.new-sorts.result.items) (sym c.new-names.ensures)
    (subst (λ ss. AreRead w s all all t [] ss) (sym c.new-sorts.ensures.items) (parameters_begin w s all t))

pub returns-in-Err : goal.returns-in-Err
returns-in-Err c =
    let w = setting_meant c.args.setting in
    let all = trees_meant c.args.parameters in
    let left = trees_meant c.parameters.rest in
    let x = word_view c.in-Some.word in
    let ns = c.parameters.names in
    λ t s h.
    let k = c.parameters.invariant t s h in
    name_wrong w s all left t ns c.parameters.sorts.items k x (tree_meant c.in-Some.text) (trees_meant c.in-Some.left) (sym c.in-Some.ensures.gives) (located_of c.in-Err.fault)
    (sym (fresh_is w (is_in_list ns) c.is_listed-taken.result x c.is_listed-taken.ensures) ∙ sym c.in-Err.ensures)

pub returns-in-Err-sort_in : goal.returns-in-Err-sort_in
returns-in-Err-sort_in c =
    let w = setting_meant c.args.setting in
    let all = trees_meant c.args.parameters in
    let left = trees_meant c.parameters.rest in
    let x = word_view c.in-Some.word in
    let ns = c.parameters.names in
    λ t s h.
    sort_wrong w s all left t ns c.parameters.sorts.items (c.parameters.invariant t s h) x (tree_meant c.in-Some.text) (trees_meant c.in-Some.left) (sym c.in-Some.ensures.gives) c.in-Ok.name.now (located_of c.in-Err-sort_in.fault)
    (sym (fresh_is w (is_in_list ns) c.is_listed-taken.result x c.is_listed-taken.ensures) ∙ sym c.in-Ok.ensures) (c.in-Err-sort_in.ensures t s h)

pub parameters-smaller : goal.parameters-smaller
parameters-smaller c =
    let less : sizes (trees_meant c.in-Some.left) < sizes (trees_meant c.parameters.rest) = omega (arith, binding_size (trees_meant c.parameters.rest) (word_view c.in-Some.word) (tree_meant c.in-Some.text) (trees_meant c.in-Some.left) (sym c.in-Some.ensures.gives)) in
    less

pub parameters-preserved : goal.parameters-preserved
parameters-preserved c =
    let w = setting_meant c.args.setting in
    let all = trees_meant c.args.parameters in
    let left = trees_meant c.parameters.rest in
    let after = trees_meant c.in-Some.left in
    let x = word_view c.in-Some.word in
    let ns = c.parameters.names in
    let n = c.in-Ok.name.now in
    λ t s h.
    let q = c.in-Ok-sort_in.ensures t s h in
    subst (λ ms. AreRead w s all after t ms c.push-in-Some.new.self.items) (sym c.in_default-push.ensures.added)
    (subst (λ ss. AreRead w s all after t (ns ++ n ∷ []) ss) (sym c.in_default-push-2.ensures.items)
    (parameters_go w s all left t ns c.parameters.sorts.items (c.parameters.invariant t s h) x (tree_meant c.in-Some.text) after (sym c.in-Some.ensures.gives) n c.in-Ok-sort_in.sort
    (sym (fresh_is w (is_in_list ns) c.is_listed-taken.result x c.is_listed-taken.ensures) ∙ sym c.in-Ok.ensures) q.0 q.1))

pub returns : goal.returns
returns c =
    let w = setting_meant c.args.setting in
    λ t s h.
    parameters_end w s (trees_meant c.args.parameters) (trees_meant c.parameters.rest) t c.parameters.names c.parameters.sorts.items (c.parameters.invariant t s h) (sym c.in_default.ensures.gives)
