-- The literals of each cycle that is there are of the atoms.
use Rattle.std.proofs.Common.{All}
use Rattle.bound_lemmas.specs.Cycles.{AreReasonsOf}
use Rattle.bound_lemmas.proofs.cycles.reasons_of.Given as goal

abbrev pub invariant-cycles : goal.invariant-cycles
invariant-cycles l = All (λ rs. AreReasonsOf l.atoms rs.items) l.found.items
