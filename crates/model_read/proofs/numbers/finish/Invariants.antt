-- What is still pending makes the whole of the number that was made.
use Rattle.std.proofs.Common.{length}
use Rattle.spec_model_files.specs.Faults.{ReadModel}
use Rattle.spec_model_files.specs.Values.{WrittenNumber}
use Rattle.model_read.specs.Numbers.{IsLeft}
use Rattle.model_read.proofs.numbers.finish.Given as goal

abbrev pub invariant-pending : goal.invariant-pending
invariant-pending l = (whole : ReadModel WrittenNumber) → IsLeft whole l.fn.pending.items l.fn.number → IsLeft whole l.pending.items l.made

abbrev pub decreases-pending : goal.decreases-pending
decreases-pending l = length l.pending.items
