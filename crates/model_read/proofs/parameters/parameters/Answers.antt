-- One parameter more, or the end, or a fault.
use Rattle.std.proofs.Common.{◌≡◌, ◌∷◌, ◌+◌, ◌++◌, ◌<◌, [], List, length, take, drop, get_or, length-take, sym, ap, ◌∙◌, arith}
use Rattle.std.proofs.lemmas.List.{length-map, length-append, drop_all, drop_more, take_all, take_more, get_or-map}
use Rattle.std.specs.Prelude.{Ok}
use Rattle.spec_text.specs.Bytes.{Name}
use Rattle.spec_sorts.specs.Terms.{Sort}
use Rattle.spec_model_files.specs.Definitions.{parameters_read}
use Rattle.smt_sexpr.specs.Items.{trees_meant, tree_meant}
use Rattle.term_core.specs.declared.sorts.Sort.TheVariants.{Bool as bool_sort}
use Rattle.term_core.specs.Symbols.{sort_meant, sorts_meant}
use Rattle.model_read.specs.Bodies.{named_sorts, with_values}
use Rattle.model_read.proofs.Counts.{count_more, count_end}
use Rattle.model_read.proofs.ParameterTexts.{parameters_more, parameters_fail, parameters_end}
use Rattle.model_read.proofs.parameters.parameters.Goals as goal

pub returns-in_default-clause-reads : goal.returns-in_default-clause-reads
returns-in_default-clause-reads c g m = absurd (omega (arith, c.parameters.invariant.left, c.parameters-test.true, count_end (trees_meant c.parameters.rest) (rw c.in_default.is at c.split.ensures.first)))

pub returns-in_default-clause-count : goal.returns-in_default-clause-count
returns-in_default-clause-count c = absurd (omega (arith, c.parameters.invariant.left, c.parameters-test.true, count_end (trees_meant c.parameters.rest) (rw c.in_default.is at c.split.ensures.first)))

pub parameters-preserved : goal.parameters-preserved
parameters-preserved c =
    let t = c.args.table.now.sorts in
    let ss = sorts_meant t c.args.sorts.now in
    let k = c.parameters.k in
    let x = get_or c.args.sorts.now k bool_sort in
    let s = sort_meant t x in
    let lt = c.parameters-test.true in
    let all_long : length ss ≡ length c.args.sorts.now = length-map c.args.sorts.now (sort_meant t) in
    let inside : k < length ss = omega (arith, lt, all_long) in
    let here : get_or ss k s ≡ s = get_or-map (sort_meant t) c.args.sorts.now k bool_sort s lt in
    let first : drop k ss ≡ s ∷ drop (k + 1) ss = drop_more ss k s inside ∙ ap (λ (r : Sort). r ∷ drop (k + 1) ss) here in
    let front : take (k + 1) ss ≡ take k ss ++ s ∷ [] = take_more ss k s inside ∙ ap (λ (r : Sort). take k ss ++ r ∷ []) here in
    let long : length c.parameters.names ≡ length (take k ss) = omega (arith, c.parameters.invariant.count, length-take k ss, inside) in
    let added = c.in_ok-add-in-Ok.ensures.added in
    let more = count_more (trees_meant c.parameters.rest) (trees_meant c.in-Some.others) (tree_meant c.in-Some.first) c.in-Some.ensures.first in
    record {
      reads = λ g m.
          (λ i. with_values (named_sorts (added i) (front i)) (parameters_read g (added i) (drop (k + 1) ss) (trees_meant c.in-Some.others)))
          ∙ parameters_more g c.parameters.names (take k ss) (drop k ss) (trees_meant c.parameters.rest) (parameters_read g [] ss (trees_meant c.args.texts)) (c.parameters.invariant.reads g m) s (drop (k + 1) ss)
          (tree_meant c.in-Some.first) (trees_meant c.in-Some.others) first c.in-Some.ensures.first c.in-Ok.name.now (sym (c.in-Ok.ensures.reads g m)) long;
      count = omega (arith, ap (λ (ns : List Name). length ns) added, length-append c.parameters.names (c.in-Ok.name.now ∷ []), c.parameters.invariant.count);
      left = omega (arith, more, c.parameters.invariant.left);
    }

pub returns-in-Err-clause-reads : goal.returns-in-Err-clause-reads
returns-in-Err-clause-reads c g m =
    let t = c.args.table.now.sorts in
    let ss = sorts_meant t c.args.sorts.now in
    let k = c.parameters.k in
    let x = get_or c.args.sorts.now k bool_sort in
    let s = sort_meant t x in
    let lt = c.parameters-test.true in
    let all_long : length ss ≡ length c.args.sorts.now = length-map c.args.sorts.now (sort_meant t) in
    let inside : k < length ss = omega (arith, lt, all_long) in
    let here : get_or ss k s ≡ s = get_or-map (sort_meant t) c.args.sorts.now k bool_sort s lt in
    let first : drop k ss ≡ s ∷ drop (k + 1) ss = drop_more ss k s inside ∙ ap (λ (r : Sort). r ∷ drop (k + 1) ss) here in
    parameters_fail g c.parameters.names (take k ss) (drop k ss) (trees_meant c.parameters.rest) (parameters_read g [] ss (trees_meant c.args.texts)) (c.parameters.invariant.reads g m) s (drop (k + 1) ss)
    (tree_meant c.in-Some.first) (trees_meant c.in-Some.others) first c.in-Some.ensures.first _ (sym (c.in-Err.ensures.reads g m))

pub returns-clause-reads : goal.returns-clause-reads
returns-clause-reads c g m =
    let t = c.args.table.now.sorts in
    let ss = sorts_meant t c.args.sorts.now in
    let k = c.parameters.k in
    let all_long : length ss ≡ length c.args.sorts.now = length-map c.args.sorts.now (sort_meant t) in
    parameters_end g c.parameters.names (take k ss) (drop k ss) (trees_meant c.parameters.rest) (parameters_read g [] ss (trees_meant c.args.texts)) (c.parameters.invariant.reads g m) (drop_all k ss (omega (arith, all_long, c.parameters-test.false)))
    ∙ ap (λ (rs : List Sort). Ok (named_sorts c.parameters.names rs)) (take_all k ss (omega (arith, all_long, c.parameters-test.false)))
