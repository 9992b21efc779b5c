-- The first of the values is named.
use Rattle.std.proofs.Common.{arith, subst, sym}
use Rattle.term_walks.specs.Valuations.{IsNamed}
use Rattle.term_walks.proofs.heads.product_value.Goals as goal

pub returns-in-len1-up-clause-named : goal.returns-in-len1-up-clause-named
returns-in-len1-up-clause-named c sorts named = c.folded.ensures.named sorts (subst (IsNamed sorts) (sym c.first-item.is) (named 0 c.first-item.result (omega (arith, c.in-len1-up.len_at_least))))
