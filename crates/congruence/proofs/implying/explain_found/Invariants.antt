-- The facts are the closure's.
use Rattle.congruence.proofs.implying.explain_found.Given as goal

abbrev pub ghost-explain_conflict : goal.ghost-explain_conflict
ghost-explain_conflict a = a.closure.now.now.facts
