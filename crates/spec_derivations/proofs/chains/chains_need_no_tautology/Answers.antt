-- By the chain, from its end.
use Rattle.std.proofs.Common.{Contains}
use Rattle.spec_derivations.proofs.Exact.{chain_taught}
use Rattle.spec_derivations.proofs.chains.chains_need_no_tautology.Goals as goal

pub returns : goal.returns
returns c premises clause h free = (h.0, chain_taught (Contains premises) h.0 clause h.1 free)
