-- A part is explained.
use Rattle.std.proofs.Common.{length, reverse, arith}
use Rattle.std.proofs.lemmas.Bool.Decides.{nat_tests}
use Rattle.explain_forest.proofs.Paths.{turns-end, turns-split}
use Rattle.explain_forest.proofs.explain.turn.Goals as goal

pub returns : goal.returns
returns c =
    turns-split (length c.args.parents.now) (reverse c.args.edges.now) c.requires.shows.apart c.args.p c.args.parts.now.items c.split.new.parts.items c.args.out.now.items c.tell.new.out.items c.top-k.result.0 c.top-k.result.1 c.requires.part c.in_ok-tell.ensures c.top-k.ensures c.in_ok-split.ensures

pub returns-then-eq : goal.returns-then-eq
returns-then-eq c = turns-end (length c.args.parents.now) (reverse c.args.edges.now) c.requires.shows.apart c.args.p c.args.parts.now.items c.args.out.now.items c.tell.new.out.items c.in_ok-tell.ensures (let same = c.if-eq.ensures in grind (arith, nat_tests, same))
