use Rattle.spec_text.specs.Readings.{kept}
use Rattle.smt_sexpr.specs.Limited.{whole_of}
use Rattle.smt_sexpr.proofs.limited.LimitedText.start.Goals as goal

pub returns-clause-place : goal.returns-clause-place
returns-clause-place c = c.start.ensures.place (kept (whole_of c.args.self.now))
