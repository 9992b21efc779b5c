-- One equality more, or the end, or a fault.
use Rattle.std.proofs.Common.{◌≡◌, ◌∷◌, ◌+◌, List, sym, ap, ◌∙◌, arith, drop, get_or}
use Rattle.std.proofs.lemmas.List.{map_push, drop_all}
use Rattle.std.proofs.lemmas.List.Elements.{All-push}
use Rattle.spec_sorts.specs.Values.{Value}
use Rattle.spec_model_files.specs.Bodies.{equality_read, equalities_read}
use Rattle.smt_sexpr.specs.Items.{trees_meant, tree_meant}
use Rattle.term_core.specs.declared.sorts.Sort.TheVariants.{Bool as bool_sort}
use Rattle.term_core.specs.Symbols.{sort_meant, sorts_meant}
use Rattle.term_walks.specs.Valuations.{value_meant, values_meant, IsNamed}
use Rattle.model_read.specs.Bodies.{named_sorts, with_values}
use Rattle.model_read.proofs.Stopping.{stops_with}
use Rattle.model_read.proofs.BodyTexts.{named_from, named_all, equalities_more, equalities_fail, equalities_end, equalities_out}
use Rattle.model_read.proofs.bodies.equalities.Goals as goal

pub returns-in_default-clause-reads : goal.returns-in_default-clause-reads
returns-in_default-clause-reads c g m =
    let t = c.args.table.now.sorts in
    let ps = named_sorts c.args.names.now (sorts_meant t c.args.sorts.now) in
    equalities_out g (values_meant t c.parameters.values.items) (equalities_read g ps (trees_meant c.args.texts)) (drop c.parameters.k ps) (trees_meant c.parameters.rest) (c.parameters.invariant.reads g m)
    (rw c.in_default.is at c.split.ensures.first)

pub returns-in-Err-clause-reads : goal.returns-in-Err-clause-reads
returns-in-Err-clause-reads c g m =
    let t = c.args.table.now.sorts in
    let k = c.parameters.k in
    let x = get_or c.args.sorts.now k bool_sort in
    let n = c.name.result.now in
    let ps = named_sorts c.args.names.now (sorts_meant t c.args.sorts.now) in
    let first : drop k ps ≡ (n, sort_meant t x) ∷ drop (k + 1) ps =
    named_from t c.args.names.now c.args.sorts.now k bool_sort (omega (arith, c.requires.long, c.parameters-test.true)) c.parameters-test.true
    ∙ (λ i. (sym c.name.ensures i, sort_meant t x) ∷ drop (k + 1) ps) in
    stops_with (equality_read g (n, sort_meant t x) (tree_meant c.in-Some.first)) (equalities_read g ps (trees_meant c.args.texts)) c.in-Err.error
    (λ f h. equalities_fail g (values_meant t c.parameters.values.items) (equalities_read g ps (trees_meant c.args.texts)) (drop k ps) (drop (k + 1) ps) (n, sort_meant t x) (trees_meant c.parameters.rest) (trees_meant c.in-Some.others)
    (tree_meant c.in-Some.first) (c.parameters.invariant.reads g m) first c.in-Some.ensures.first _ h) (c.in-Err.ensures.reads g m)

pub parameters-preserved : goal.parameters-preserved
parameters-preserved c =
    let t = c.args.table.now.sorts in
    let k = c.parameters.k in
    let x = get_or c.args.sorts.now k bool_sort in
    let n = c.name.result.now in
    let vs = c.parameters.values.items in
    let ps = named_sorts c.args.names.now (sorts_meant t c.args.sorts.now) in
    let first : drop k ps ≡ (n, sort_meant t x) ∷ drop (k + 1) ps =
    named_from t c.args.names.now c.args.sorts.now k bool_sort (omega (arith, c.requires.long, c.parameters-test.true)) c.parameters-test.true
    ∙ (λ i. (sym c.name.ensures i, sort_meant t x) ∷ drop (k + 1) ps) in
    record {
      reads = λ g m.
          ap (λ (us : List Value). with_values us (equalities_read g (drop (k + 1) ps) (trees_meant c.in-Some.others))) (ap (values_meant t) c.in_ok-push-in-Ok.ensures.items ∙ map_push (value_meant t) vs c.in-Ok.made)
          ∙ equalities_more g (values_meant t vs) (equalities_read g ps (trees_meant c.args.texts)) (drop k ps) (drop (k + 1) ps) (n, sort_meant t x) (trees_meant c.parameters.rest) (trees_meant c.in-Some.others) (tree_meant c.in-Some.first)
          (c.parameters.invariant.reads g m) first c.in-Some.ensures.first (value_meant t c.in-Ok.made) (c.in-Ok.ensures.reads g m);
      named = rw c.in_ok-push-in-Ok.ensures.items (All-push (IsNamed t) vs c.in-Ok.made c.parameters.invariant.named c.in-Ok.ensures.named);
    }

pub returns-clause-reads : goal.returns-clause-reads
returns-clause-reads c g m =
    let t = c.args.table.now.sorts in
    let ps = named_sorts c.args.names.now (sorts_meant t c.args.sorts.now) in
    equalities_end g (values_meant t c.parameters.values.items) (equalities_read g ps (trees_meant c.args.texts)) (drop c.parameters.k ps) (trees_meant c.parameters.rest) (c.parameters.invariant.reads g m)
    (drop_all c.parameters.k ps (omega (arith, named_all t c.args.names.now c.args.sorts.now c.requires.long, c.parameters-test.false)))
