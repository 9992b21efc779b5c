-- The clauses up to here are counted.
use Rattle.std.proofs.Common.{drop}
use Rattle.spec_proof_texts.specs.Plans.{times_in_clauses}
use Rattle.proof_log.specs.Logs.{derivation_in}
use Rattle.alethe_writer.proofs.Counts.{IsCounting}
use Rattle.alethe_writer.proofs.uses.count_in_clauses.Given as goal

abbrev pub invariant-clauses : goal.invariant-clauses
invariant-clauses l = record { so_far : IsCounting l.table (times_in_clauses l.support (derivation_in l.table l.log)) (times_in_clauses (drop l.number l.support) (drop l.number (derivation_in l.table l.log))) l.fn.uses l.uses }
