use Rattle.delta_num.proofs.Results.{no_tilt}
use Rattle.delta_num.proofs.delta.Delta.number.Goals as goal

pub returns : goal.returns
returns c = no_tilt c.args.base c.of.result c.of.ensures
