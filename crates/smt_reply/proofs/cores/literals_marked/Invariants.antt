-- The texts of the literals before this one are listed.
use Rattle.std.proofs.Common.{◌≡◌, List, length}
use Rattle.spec_sorts.specs.Terms.{Term}
use Rattle.spec_commands.specs.Stack.{Assertion}
use Rattle.alethe_writer.specs.Assumes.{SaysWhether}
use Rattle.assertion_stack.specs.Assertions.{texts_printed}
use Rattle.assertion_stack.specs.Stacks.{AreAssumed}
use Rattle.smt_reply.specs.Cores.{counts_unseen}
use Rattle.smt_reply.proofs.Marked.{AreListed}
use Rattle.smt_reply.proofs.cores.literals_marked.Given as goal

abbrev pub invariant-literals : goal.invariant-literals
invariant-literals l = record {
  as_many : length l.marks.items ≡ length l.table.terms;
  so_far : (terms seen : List Term) (ls : List Assertion) → AreAssumed l.table l.assumed.ids.items ls → l.assumed.texts ≡ texts_printed ls
      → SaysWhether l.table (counts_unseen terms seen) l.fn.marks.items → AreListed l.table terms seen ls l.k l.marks.items l.texts;
}
