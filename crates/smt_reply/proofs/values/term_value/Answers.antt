-- The value, or the operation that leaves the bound.
use Rattle.std.proofs.Common.{[], ap, ◌∙◌}
use Rattle.spec_text.specs.declared.Fault.TheVariants.{ValueWide}
use Rattle.spec_text.specs.Trees.{offset_of}
use Rattle.spec_sorts.specs.BoundedValues.{bounded_value}
use Rattle.spec_sessions.specs.Replies.{value_there}
use Rattle.smt_sexpr.specs.Items.{tree_meant}
use Rattle.term_core.specs.Tables.{term_at}
use Rattle.smt_reply.specs.Replies.{fault_of}
use Rattle.smt_reply.proofs.Asked.{refuses}
use Rattle.smt_reply.proofs.Valued.{value_wide}
use Rattle.smt_reply.proofs.values.term_value.Goals as goal

pub returns-in-Err-Wide : goal.returns-in-Err-Wide
returns-in-Err-Wide c i h =
    let at = offset_of (tree_meant c.args.tree) in
    let value = bounded_value i [] (term_at c.args.table.now c.args.id) in
    refuses (value_there at value) c.refused.result at ValueWide (c.refused.ensures ∙ ap (λ n. fault_of n ValueWide) c.offset.ensures) (value_wide at value _ (rw c.in-Err-Wide.field-0-is at (c.in-Err-Wide.ensures.exact i h)))

pub returns-in-Ok-print : goal.returns-in-Ok-print
returns-in-Ok-print c i h = record {
  text = c.in-Ok-print.ensures;
  value = ap (value_there (offset_of (tree_meant c.args.tree))) (c.in-Ok.ensures.exact i h);
  named = c.in-Ok.ensures.named;
}
