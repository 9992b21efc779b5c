-- That the clause ends in the two terms, or does not.
use Rattle.rule_eq.proofs.ClauseEnds.{front_in, last_in, ends_denied, denies_none}
use Rattle.rule_eq.proofs.endings.denied_ending.Goals as goal

pub returns-in_default-denied : goal.returns-in_default-denied
returns-in_default-denied c = denies_none c.args.table.now c.args.clause.now c.in-Some.front.now c.in-Some.other.now c.in-Some.ensures.cases.0 c.in-Some-split_last.literals.now c.in-Some-split_last.literal.now c.in-Some-split_last.ensures.cases.0 c.in_default-denied.ensures

pub returns : goal.returns
returns c =
    let table = c.args.table.now in
    let front_there = front_in table c.args.clause.now c.in-Some.front.now c.in-Some.other.now c.in-Some.ensures.cases.0 c.requires in
    record {
      literals_there = front_in table c.in-Some.front.now c.in-Some-split_last.literals.now c.in-Some-split_last.literal.now c.in-Some-split_last.ensures.cases.0 front_there;
      one_there = c.in-Some-denied.ensures.0;
      other_there = last_in table c.args.clause.now c.in-Some.front.now c.in-Some.other.now c.in-Some.ensures.cases.0 c.requires;
      same = ends_denied table c.args.clause.now c.in-Some.front.now c.in-Some.other.now c.in-Some.ensures.cases.0 c.in-Some-split_last.literals.now c.in-Some-split_last.literal.now c.in-Some-split_last.ensures.cases.0 _ c.in-Some-denied.ensures.1;
    }
