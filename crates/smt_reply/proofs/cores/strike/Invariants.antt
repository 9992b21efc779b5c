-- The terms of the assertions from here on are struck.
use Rattle.std.proofs.Common.{◌≡◌, ℕ, Bool, drop, length}
use Rattle.std.specs.Prelude.{◌≤◌}
use Rattle.spec_sorts.specs.Terms.{Term}
use Rattle.spec_commands.specs.Stack.{Stack as ScriptStack, assertions_of}
use Rattle.alethe_writer.specs.Assumes.{SaysWhether}
use Rattle.assertion_stack.specs.Stacks.{over_table, IsStack}
use Rattle.smt_reply.proofs.Marked.{left_by}
use Rattle.smt_reply.proofs.cores.strike.Given as goal

abbrev pub invariant-assertions : goal.invariant-assertions
invariant-assertions l = record {
  within : l.k ≤ length l.stack.assertions.ids;
  as_many : length l.marks.items ≡ length l.fn.marks.items;
  so_far : (limit : ℕ) (s : ScriptStack) (test : Term → Bool) → IsStack limit (over_table l.table l.stack) s → SaysWhether l.table test l.fn.marks.items
      → SaysWhether l.table (left_by test l.all (drop l.k (assertions_of s))) l.marks.items;
}
