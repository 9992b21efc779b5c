-- The batch is the same.
use Rattle.case_equalities.proofs.casing.state_case.Given as goal

abbrev pub ghost-denial : goal.ghost-denial
ghost-denial g a = g.batch

abbrev pub ghost-join : goal.ghost-join
ghost-join g a = g.batch

abbrev pub ghost-take_apart : goal.ghost-take_apart
ghost-take_apart g a = g.batch

abbrev pub ghost-resolve : goal.ghost-resolve
ghost-resolve g a = g.batch
