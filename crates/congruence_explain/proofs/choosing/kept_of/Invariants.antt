-- The claims up to here.
use Rattle.congruence_explain.proofs.Chosen.{KeepsSome}
use Rattle.congruence_explain.proofs.choosing.kept_of.Given as goal

abbrev pub invariant-claims : goal.invariant-claims
invariant-claims l = KeepsSome l.needed l.literals l.clause l.i l.kept.items
