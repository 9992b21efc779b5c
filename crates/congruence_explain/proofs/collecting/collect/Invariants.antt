-- The start is the same, and what is asked is shown by the edges that are needed.
use Rattle.proof_log.specs.Theories.{derived}
use Rattle.congruence_explain.specs.declared.claims.Claim.TheVariants.{Equality}
use Rattle.congruence_explain.specs.Claims.{literal_claimed}
use Rattle.congruence_explain.specs.Steps.{Explains, setting, notes, Going}
use Rattle.congruence_explain.proofs.Needed.{bound}
use Rattle.congruence_explain.proofs.collecting.collect.Given as goal

abbrev pub ghost-tell : goal.ghost-tell
ghost-tell g a = g.start

abbrev pub ghost-turn : goal.ghost-turn
ghost-turn g a = g.start

abbrev pub invariant-edges : goal.invariant-edges
invariant-edges g l = record {
  derives : Explains g.start (derived l.table l.log);
  going : Going (setting g.start.table l.truths l.forest.now) (literal_claimed g.start.table (Equality l.fn.x l.fn.y)) (notes g.start (derived l.table l.log) l.needed.keys l.stated.items);
}

abbrev pub decreases-edges : goal.decreases-edges
decreases-edges g l = bound l.needed.keys
