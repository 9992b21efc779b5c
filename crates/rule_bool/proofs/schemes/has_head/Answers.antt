-- The derived `==` says whether the head is that one.
use Rattle.rule_bool.proofs.Given.{head_by}
use Rattle.rule_bool.proofs.schemes.has_head.Goals as goal

pub returns : goal.returns
returns c = head_by c.args.node.now c.args.head c.eq.result c.eq.ensures
