-- The orders before this one.
use Rattle.std.proofs.Common.{◌≡◌, ◌+◌, ◌++◌}
use Rattle.std.specs.Prelude.{flat_map}
use Rattle.gen_script.specs.Scripts.{numbers, order}
use Rattle.gen_script.proofs.script.add_orders.Given as goal

abbrev pub invariant-loop-i : goal.invariant-loop-i
invariant-loop-i l = l.text.items ≡ l.fn.text.items ++ flat_map (λ i. order i (i + 1)) (numbers l.i)
