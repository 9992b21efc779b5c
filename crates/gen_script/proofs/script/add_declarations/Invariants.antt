-- The declarations before this one.
use Rattle.std.proofs.Common.{◌≡◌, ◌++◌}
use Rattle.std.specs.Prelude.{flat_map}
use Rattle.gen_script.specs.Scripts.{numbers, declaration}
use Rattle.gen_script.proofs.script.add_declarations.Given as goal

abbrev pub invariant-loop-i : goal.invariant-loop-i
invariant-loop-i l = l.text.items ≡ l.fn.text.items ++ flat_map declaration (numbers l.i)
