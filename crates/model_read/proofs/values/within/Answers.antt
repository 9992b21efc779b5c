-- A number within the bounds, or beyond.
use Rattle.model_read.proofs.WrittenValues.{number_within, number_wide}
use Rattle.model_read.proofs.values.within.Goals as goal

pub returns-in-Some-clause-fits : goal.returns-in-Some-clause-fits
returns-in-Some-clause-fits c sorts g x h = number_within g c.args.at c.args.number c.in-Some.q x c.in-Some.is h

pub returns-in-None-clause-fits : goal.returns-in-None-clause-fits
returns-in-None-clause-fits c sorts g x h = number_wide g c.args.at c.args.number x c.fault_at.result c.in-None.is h c.fault_at.ensures
