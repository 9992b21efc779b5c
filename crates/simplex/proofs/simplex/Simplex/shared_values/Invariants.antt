-- The values up to here.
use Rattle.std.proofs.Common.{map, take}
use Rattle.spec_causes.specs.Shared.{AreValuesOf}
use Rattle.term_core.specs.Tables.{clause_at}
use Rattle.simplex_bounds.specs.Deltas.{pair_of}
use Rattle.simplex.specs.Coming.{term_tableau_of}
use Rattle.simplex.proofs.simplex.Simplex.shared_values.Given as goal

abbrev pub invariant-terms : goal.invariant-terms
invariant-terms l = AreValuesOf (term_tableau_of l.table l.self) (clause_at l.table (take l.id-index l.shared)) (map pair_of l.values.items)
