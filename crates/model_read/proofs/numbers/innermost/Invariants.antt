-- What is pending makes the whole of the number of the inner text.
use Rattle.std.proofs.Common.{◌≡◌}
use Rattle.spec_model_files.specs.Values.{number_read}
use Rattle.smt_sexpr.specs.Items.{tree_meant, size_of}
use Rattle.model_read.specs.Numbers.{made_by_all}
use Rattle.model_read.proofs.numbers.innermost.Given as goal

abbrev pub invariant-texts : goal.invariant-texts
invariant-texts l = made_by_all l.pending.items (number_read (tree_meant l.inner)) ≡ made_by_all l.fn.pending.items (number_read (tree_meant l.text))

abbrev pub decreases-texts : goal.decreases-texts
decreases-texts l = size_of l.inner
