-- One filled argument after the other comes.
use Rattle.std.proofs.Common.{arith}
use Rattle.term_walks.proofs.Named.{no_number}
use Rattle.term_walks.proofs.Filled.{filled_more, filled_end}
use Rattle.term_walks.proofs.substitution.filled_all.Goals as goal

pub made_at-requires-clause-there : goal.made_at-requires-clause-there
made_at-requires-clause-there c = c.requires.there c.arguments.id-index no_number c.arguments-test.true

pub arguments-preserved : goal.arguments-preserved
arguments-preserved c = record {
  so_far = λ t ts are. filled_more t ts c.args.arguments.now c.arguments.all.items c.push.new.self.items c.arguments.id-index no_number c.made_at.result c.arguments-test.true (c.made_at.ensures t ts are) c.in_ok-push.ensures.items (c.arguments.invariant.so_far t ts are);
}

pub returns : goal.returns
returns c t ts are = filled_end t ts c.args.arguments.now c.arguments.all.items c.arguments.id-index (omega (arith, c.arguments-test.false)) (c.arguments.invariant.so_far t ts are)
