-- The batch is that of the lead.
use Rattle.case_equalities.specs.Stating.{batch_of}
use Rattle.case_equalities.proofs.stating.state.Given as goal

abbrev pub ghost-denial : goal.ghost-denial
ghost-denial g a = batch_of g.origin

abbrev pub ghost-state_cases : goal.ghost-state_cases
ghost-state_cases g a = batch_of g.origin

abbrev pub ghost-resolve : goal.ghost-resolve
ghost-resolve g a = batch_of g.origin
