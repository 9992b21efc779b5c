-- By the chain.
use Rattle.std.proofs.Common.{Contains}
use Rattle.spec_sorts.specs.Literals.{complement}
use Rattle.spec_derivations.proofs.Exact.{chain_literals}
use Rattle.spec_derivations.proofs.chains.resolvents_have_their_premises_literals.Goals as goal

pub returns : goal.returns
returns c premises clause h = chain_literals complement (Contains premises) h.0 clause h.1
