-- None up to here is the variable's.
use Rattle.std.proofs.Common.{take}
use Rattle.linear_form.specs.Entries.{live, LacksNumber}
use Rattle.linear_form.proofs.entries.live_place.Given as goal

abbrev pub invariant-entries : goal.invariant-entries
invariant-entries l = record { lacks : LacksNumber l.id.0 (live (take l.at l.entries)) }
