-- The names of the assertions before this one are listed.
use Rattle.std.proofs.Common.{◌≡◌, ℕ, List, [], length}
use Rattle.spec_sorts.specs.Terms.{Term}
use Rattle.spec_commands.specs.Stack.{Stack as ScriptStack, assertions_of}
use Rattle.spec_sessions.specs.Cores.{unnamed}
use Rattle.alethe_writer.specs.Assumes.{SaysWhether}
use Rattle.assertion_stack.specs.Stacks.{over_table, IsStack}
use Rattle.smt_reply.specs.Cores.{counts_named}
use Rattle.smt_reply.proofs.Marked.{AreNamed}
use Rattle.smt_reply.proofs.cores.names_marked.Given as goal

abbrev pub invariant-assertions : goal.invariant-assertions
invariant-assertions l = record {
  as_many : length l.marks.items ≡ length l.table.terms;
  so_far : (limit : ℕ) (s : ScriptStack) (assumed : List Term) → IsStack limit (over_table l.table l.stack) s
      → SaysWhether l.table (counts_named assumed (unnamed (assertions_of s)) []) l.fn.marks.items → AreNamed l.table assumed (assertions_of s) l.k l.marks.items l.names;
}
