-- That the table is cut back.
use Rattle.conflict_learn.proofs.Stating.{cut_back, extends_back}
use Rattle.conflict_learn.proofs.learning.learn.Goals as goal

pub returns-in-Err-clause-grown : goal.returns-in-Err-clause-grown
returns-in-Err-clause-grown c =
    let same = cut_back c.args.table.now c.learned.new.table c.cut.new.self c.len-terms.result c.len-terms.ensures c.learned.ensures.grown c.learned.ensures.declared c.cut.ensures.terms c.cut.ensures.declared in
    extends_back c.args.table.now c.cut.new.self same
