-- That the table is cut back.
use Rattle.conflict_learn.proofs.Stating.{cut_back, extends_back}
use Rattle.solve_core.proofs.outcome.decide.Goals as goal

pub returns-in-Err-clause-grown : goal.returns-in-Err-clause-grown
returns-in-Err-clause-grown c =
    let same = cut_back c.args.table.now c.decided.new.table c.cut.new.self c.len-len.result c.len-len.ensures c.decided.ensures.grown c.decided.ensures.declared c.cut.ensures.terms c.cut.ensures.declared in
    extends_back c.args.table.now c.cut.new.self same
