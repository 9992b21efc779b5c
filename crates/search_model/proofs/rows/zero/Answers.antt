-- 0 over 1 is 0.
use Rattle.std.proofs.Common.{◌∙◌, ap}
use Rattle.spec_sorts.specs.Values.{number}
use Rattle.term_walks.proofs.Fixed.{zero_is}
use Rattle.search_model.proofs.rows.zero.Goals as goal

pub returns-clause-means : goal.returns-clause-means
returns-clause-means c sorts = ap number (c.of.ensures ∙ zero_is)
