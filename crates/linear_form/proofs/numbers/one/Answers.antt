-- 1 over 1 is 1.
use Rattle.std.proofs.Common.{◌∙◌}
use Rattle.term_walks.proofs.Fixed.{one_is}
use Rattle.linear_form.proofs.numbers.one.Goals as goal

pub returns : goal.returns
returns c = c.of.ensures ∙ one_is
