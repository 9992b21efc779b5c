use Rattle.std.proofs.Common.{arith, refl}
use Rattle.smt_sexpr.proofs.Contexts.{holds_ended}
use Rattle.smt_sexpr.proofs.reader.end_list.Goals as goal

pub returns-in-List-clause-ended : goal.returns-in-List-clause-ended
returns-in-List-clause-ended c context open_at h = holds_ended context c.args.items.now.items open_at c.args.index c.args.end c.args.end c.in-List.at c.in-List.field-1 c.in-List.field-2 _ c.index.result.now c.index.ensures c.in-List.is refl (omega (arith, c.args.items.now.ok.0)) h
