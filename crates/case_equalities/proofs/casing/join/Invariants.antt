-- The batch is the same.
use Rattle.case_equalities.proofs.casing.join.Given as goal

abbrev pub ghost-chain_clause : goal.ghost-chain_clause
ghost-chain_clause g a = g.batch

abbrev pub ghost-log_alone : goal.ghost-log_alone
ghost-log_alone g a = g.batch
