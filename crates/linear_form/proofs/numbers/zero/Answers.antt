-- 0 over 1 is 0.
use Rattle.std.proofs.Common.{◌∙◌}
use Rattle.term_walks.proofs.Fixed.{zero_is}
use Rattle.linear_form.proofs.numbers.zero.Goals as goal

pub returns : goal.returns
returns c = c.of.ensures ∙ zero_is
