-- The live ones up to here came.
use Rattle.std.proofs.Common.{◌≡◌, ◌++◌, map, take}
use Rattle.linear_form.specs.Entries.{live, pair_view}
use Rattle.linear_form.proofs.form.add_live.Given as goal

abbrev pub invariant-entries : goal.invariant-entries
invariant-entries l = record { so_far : map pair_view l.variables.items ≡ map pair_view l.fn.variables.items ++ live (take l.at l.entries) }
