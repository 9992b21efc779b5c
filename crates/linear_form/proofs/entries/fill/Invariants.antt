-- The map is the index of the entries up to here.
use Rattle.std.proofs.Common.{take, nat_eq}
use Rattle.std.specs.HashMap.{get}
use Rattle.linear_form.specs.Entries.{IsIndex}
use Rattle.linear_form.proofs.entries.fill.Given as goal

abbrev pub invariant-entries : goal.invariant-entries
invariant-entries l = record { filled : IsIndex (get nat_eq l.places) (take l.at l.entries) }
