-- The derived `==` says whether the heads are one.
use Rattle.rule_eq.proofs.Heads.{heads_by}
use Rattle.rule_eq.proofs.joined.same_head.Goals as goal

pub returns : goal.returns
returns c = heads_by c.args.one.now c.args.other.now c.eq.result c.eq.ensures
