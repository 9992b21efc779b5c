-- The terms up to here are no numbers.
use Rattle.std.proofs.Common.{◌≢◌, take, Contains}
use Rattle.spec_sorts.specs.Terms.{Number, Term, sort_of}
use Rattle.term_core.specs.Tables.{clause_at}
use Rattle.solve_core.proofs.answering.have_numbers.Given as goal

abbrev pub invariant-terms : goal.invariant-terms
invariant-terms l = (u : Term) → Contains (clause_at l.table (take l.id-index l.terms)) u → sort_of u ≢ Number
