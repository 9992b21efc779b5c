-- The clauses are computed.
use Rattle.std.proofs.Common.{refl}
use Rattle.spec_sorts.specs.Terms.{sort_of}
use Rattle.spec_derivations.proofs.examples.order_clauses_are_stated.Goals as goal

pub returns : goal.returns
unfolding sort_of
returns c = record { numbers = refl; others = refl; orders = refl }
