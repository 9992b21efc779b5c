-- 0 over 1 is 0.
use Rattle.std.proofs.Common.{◌∙◌, ap}
use Rattle.spec_sorts.specs.Values.{number}
use Rattle.term_walks.proofs.Fixed.{zero_is}
use Rattle.model_read.proofs.tables.usual_value.Goals as goal

pub returns-in-Real-clause-means : goal.returns-in-Real-clause-means
returns-in-Real-clause-means c sorts = rw c.in-Real.is (ap number (c.of.ensures ∙ zero_is))
