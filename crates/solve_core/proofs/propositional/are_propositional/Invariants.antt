-- The terms up to here are propositional.
use Rattle.std.proofs.Common.{take, All}
use Rattle.spec_valuations.specs.Propositional.{IsPropositional}
use Rattle.term_core.specs.Tables.{clause_at}
use Rattle.solve_core.proofs.propositional.are_propositional.Given as goal

abbrev pub invariant-terms : goal.invariant-terms
invariant-terms l = All IsPropositional (clause_at l.table (take l.id-index l.terms))
