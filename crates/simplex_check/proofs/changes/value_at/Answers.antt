use Rattle.simplex_check.proofs.Points.{value_at}
use Rattle.simplex_check.proofs.changes.value_at.Goals as goal

pub returns : goal.returns
returns c = value_at c.args.values.now c.args.y c.index-values-y.result c.requires c.index-values-y.is
