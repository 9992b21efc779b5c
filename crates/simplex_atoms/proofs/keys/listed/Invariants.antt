-- The pairs up to here are those of the entries up to here.
use Rattle.std.proofs.Common.{◌≡◌, take}
use Rattle.tableau.specs.Entries.{entries_of}
use Rattle.simplex_atoms.specs.Sums.{signed_entries, pairs_meant}
use Rattle.simplex_atoms.proofs.keys.listed.Given as goal

abbrev pub invariant-entries : goal.invariant-entries
invariant-entries l = pairs_meant l.pairs.items ≡ signed_entries l.opposite (entries_of (take l.at l.entries))
