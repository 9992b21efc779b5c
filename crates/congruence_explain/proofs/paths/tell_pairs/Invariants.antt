-- The start is the same, and the pairs up to here are explained.
use Rattle.proof_log.specs.Theories.{derived}
use Rattle.std.proofs.Common.{◌≡◌, ◌++◌, [], drop}
use Rattle.congruence_explain.specs.Claims.{all_unequal}
use Rattle.congruence_explain.specs.Steps.{Explains, setting, notes, TellsClause}
use Rattle.congruence_explain.proofs.paths.tell_pairs.Given as goal

abbrev pub ghost-tell_pair : goal.ghost-tell_pair
ghost-tell_pair g a = g.start

abbrev pub invariant-pairs : goal.invariant-pairs
invariant-pairs g l = record {
  derives : Explains g.start (derived l.table l.log);
  clause : l.clause.items ++ all_unequal (drop l.i l.xs) (drop l.i l.ys) ≡ all_unequal l.xs l.ys;
  told : TellsClause (setting g.start.table l.truths l.forest.now) (notes g.start (derived l.fn.table l.fn.log) l.fn.needed.keys []) (notes g.start (derived l.table l.log) l.needed.keys []) l.xs l.ys l.clause.items;
}
