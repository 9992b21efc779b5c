-- The terms up to here are counted.
use Rattle.std.proofs.Common.{drop}
use Rattle.spec_proof_texts.specs.Plans.{times_in_terms}
use Rattle.alethe_writer.proofs.Counts.{IsCounting}
use Rattle.alethe_writer.proofs.uses.count_in_terms.Given as goal

abbrev pub invariant-terms : goal.invariant-terms
invariant-terms l = record { so_far : IsCounting l.table (times_in_terms l.printed l.table.terms) (times_in_terms (drop l.number l.printed) (drop l.number l.table.terms)) l.fn.uses l.uses }
