-- The Real ones up to here came.
use Rattle.std.proofs.Common.{take}
use Rattle.term_core.specs.Tables.{clause_at}
use Rattle.solve_core.specs.Sharing.{reals_in, AddsSharedTerms}
use Rattle.solve_core.proofs.sharing.add_reals.Given as goal

abbrev pub invariant-terms : goal.invariant-terms
invariant-terms l = AddsSharedTerms l.table l.fn.ids.items l.ids.items (reals_in (clause_at l.table (take l.id-index l.terms)))
