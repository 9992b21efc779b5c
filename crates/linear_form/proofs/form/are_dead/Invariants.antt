-- None up to here is live.
use Rattle.std.proofs.Common.{◌≡◌, [], take}
use Rattle.linear_form.specs.Entries.{live}
use Rattle.linear_form.proofs.form.are_dead.Given as goal

abbrev pub invariant-entries : goal.invariant-entries
invariant-entries l = record { dead : live (take l.at l.entries) ≡ [] }
