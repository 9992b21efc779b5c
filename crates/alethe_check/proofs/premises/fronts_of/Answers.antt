-- The beginning of the clause of one number more.
use Rattle.std.proofs.lemmas.List.{take_all}
use Rattle.alethe_check.proofs.Numbers.{fronts_more, fronts_there}
use Rattle.alethe_check.proofs.premises.fronts_of.Goals as goal

pub loop-number-preserved : goal.loop-number-preserved
loop-number-preserved c = record {
  same = fronts_more c.args.state.now c.args.numbers.now c.loop-number.number-index 0 c.loop-number.made.items c.push.new.self.items c.in_ok-front.front c.loop-number-test.true c.requires.numbers c.in_ok-front.ensures c.in_ok-push.ensures.items c.loop-number.invariant.same;
  there = fronts_there c.args.state.now c.args.numbers.now c.loop-number.number-index 0 c.loop-number.made.items c.push.new.self.items c.in_ok-front.front c.loop-number-test.true c.requires.numbers c.in_ok-front.ensures c.in_ok-push.ensures.items c.requires.clauses c.loop-number.invariant.there;
}

pub returns-clause-same : goal.returns-clause-same
returns-clause-same c = rw (take_all _ _ c.loop-number-test.false) at c.loop-number.invariant.same
