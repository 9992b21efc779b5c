-- Clause by clause.
use Rattle.proof_log.proofs.KeptSound.{same_clause, rests, derived, name_was}
use Rattle.proof_log.proofs.laws.kept_derivations_stay.Goals as goal

pub returns-clause-clauses : goal.returns-clause-clauses
returns-clause-clauses c = same_clause

pub returns-clause-rests : goal.returns-clause-rests
returns-clause-rests c = rests

pub returns-clause-derived : goal.returns-clause-derived
returns-clause-derived c t terms old new len names renamed h s lt d = derived old new len names renamed h t terms s lt d

pub returns-clause-names : goal.returns-clause-names
returns-clause-names c = name_was
