-- The only argument.
use Rattle.std.specs.Prelude.{Ok}
use Rattle.std.proofs.Common.{◌∷◌, ◌++◌, [], List, sym, ap, ◌∙◌}
use Rattle.spec_text.specs.Bytes.{Name}
use Rattle.spec_sorts.specs.Terms.{Sort}
use Rattle.spec_sorts.specs.Values.{Value}
use Rattle.term_walks.specs.declared.values.Value.{Value as CodeValue}
use Rattle.spec_model_files.specs.Bodies.{equality_read, condition_read}
use Rattle.smt_sexpr.specs.Items.{tree_meant}
use Rattle.term_core.specs.Symbols.{sort_meant}
use Rattle.term_walks.specs.Valuations.{value_meant, values_meant}
use Rattle.model_read.proofs.Stopping.{stops_with}
use Rattle.model_read.proofs.BodyTexts.{condition_only, condition_only_fails}
use Rattle.model_read.proofs.bodies.only_equality.Goals as goal

pub returns-in_ok-push-in-Ok-clause-reads : goal.returns-in_ok-push-in-Ok-clause-reads
returns-in_ok-push-in-Ok-clause-reads c g m =
    let t = c.args.table.now.sorts in
    condition_only g (c.args.name.now, sort_meant t c.args.sort) (tree_meant c.args.text) (value_meant t c.in-Ok.made) (c.in-Ok.ensures.reads g m)
    ∙ ap (λ (vs : List Value). Ok vs) (sym (ap (values_meant t) (c.in_ok-push-in-Ok.ensures.items ∙ ap (λ (xs : List CodeValue). xs ++ c.in-Ok.made ∷ []) c.new-values.ensures.items)))

pub returns-in-Err-clause-reads : goal.returns-in-Err-clause-reads
returns-in-Err-clause-reads c g m =
    let p : Name × Sort = (c.args.name.now, sort_meant c.args.table.now.sorts c.args.sort) in
    stops_with (equality_read g p (tree_meant c.args.text)) (condition_read g (p ∷ []) (tree_meant c.args.text)) c.in-Err.error (λ f h. condition_only_fails g p (tree_meant c.args.text) _ h) (c.in-Err.ensures.reads g m)
