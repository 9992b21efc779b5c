-- A reason's literal is that of a bound, which is held.
use Rattle.simplex_explain.proofs.HeldReasons.{reasons_watched, reasons_held}
use Rattle.simplex_explain.proofs.laws.reasons_are_of_watched_atoms.Goals as goal

pub returns-clause-reasons : goal.returns-clause-reasons
returns-clause-reasons c = reasons_watched

pub returns-clause-held : goal.returns-clause-held
returns-clause-held c = reasons_held
