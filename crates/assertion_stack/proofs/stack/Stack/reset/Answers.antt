-- The first stack again, over an empty table.
use Rattle.std.proofs.Common.{refl, ap, subst}
use Rattle.spec_commands.specs.Stack.{did, empty_stack}
use Rattle.term_core.specs.Tables.{TableView}
use Rattle.assertion_stack.specs.Stacks.{over_table, IsStack}
use Rattle.assertion_stack.proofs.stack.Stack.reset.Goals as goal

pub returns : goal.returns
returns c = record {
  performs = λ limit at s h.
      let first = c.new-2.ensures c.new.result (ap (λ (t : TableView). t.sorts) c.new.ensures) (ap (λ (t : TableView). t.symbols) c.new.ensures) in
      (did empty_stack, refl, refl, subst (λ l. IsStack l (over_table c.new.result c.new-2.result) empty_stack) h.limit_is first);
}
