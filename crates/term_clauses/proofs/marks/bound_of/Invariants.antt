-- The numbers up to here are below the bound.
use Rattle.std.proofs.Common.{◌<◌, ◌≤◌, length, take, All}
use Rattle.term_clauses.proofs.marks.bound_of.Given as goal

abbrev pub invariant-ids : goal.invariant-ids
invariant-ids l = record { above : All (λ id. id.0 < l.bound) (take l.id-index l.ids); within : l.bound ≤ length l.table.terms }
