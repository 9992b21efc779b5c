-- What there is at the start.
use Rattle.proof_log.specs.Theories.{derived}
use Rattle.case_equalities.proofs.equalities.equalities_of_cases.Given as goal

abbrev pub ghost-state_all : goal.ghost-state_all
ghost-state_all a = record { start = derived a.table.now a.log.now; roots = a.roots.now }
