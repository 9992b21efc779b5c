-- That the clause ends in the equality.
use Rattle.rule_eq.proofs.ClauseEnds.{front_in, ends_equal}
use Rattle.rule_eq.proofs.endings.equal_ending.Goals as goal

pub returns : goal.returns
returns c =
    let table = c.args.table.now in
    record {
      literals_there = front_in table c.args.clause.now c.in-Some.literals.now c.in-Some.last.now c.in-Some.ensures.cases.0 c.requires;
      one_there = c.in-Some-sides.ensures.one_there;
      other_there = c.in-Some-sides.ensures.other_there;
      same = ends_equal table c.args.clause.now c.in-Some.literals.now c.in-Some.last.now c.in-Some.ensures.cases.0 _ c.in-Some-sides.ensures;
    }
