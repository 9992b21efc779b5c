-- The clause of one number more.
use Rattle.std.proofs.lemmas.List.{take_all}
use Rattle.alethe_check.proofs.Numbers.{copies_more, copies_there}
use Rattle.alethe_check.proofs.premises.clauses_of.Goals as goal

pub loop-number-preserved : goal.loop-number-preserved
loop-number-preserved c = record {
  same = copies_more c.args.state.now c.args.numbers.now c.loop-number.number-index 0 c.loop-number.made.items c.push.new.self.items c.in_ok-clause.clause c.loop-number-test.true c.requires.numbers c.in_ok-clause.ensures c.in_ok-push.ensures.items c.loop-number.invariant.same;
  there = copies_there c.args.state.now c.args.numbers.now c.loop-number.number-index 0 c.loop-number.made.items c.push.new.self.items c.in_ok-clause.clause c.loop-number-test.true c.requires.numbers c.in_ok-clause.ensures c.in_ok-push.ensures.items c.requires.clauses c.loop-number.invariant.there;
}

pub returns-clause-same : goal.returns-clause-same
returns-clause-same c = rw (take_all _ _ c.loop-number-test.false) at c.loop-number.invariant.same
