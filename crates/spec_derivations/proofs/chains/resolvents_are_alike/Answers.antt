-- By the chain, and by one after the other.
use Rattle.std.proofs.Common.{Contains}
use Rattle.std.proofs.lemmas.List.Elements.{All-contains, All-from_recursion}
use Rattle.spec_derivations.specs.ExactChains.{AreAlike}
use Rattle.spec_derivations.proofs.Exact.{chain_alike, learned_alike}
use Rattle.spec_derivations.proofs.chains.resolvents_are_alike.Goals as goal

pub returns-clause-one : goal.returns-clause-one
returns-clause-one c premises test each clause h = chain_alike (Contains premises) test (λ d i. All-contains (AreAlike test) premises d each i) h.0 clause h.1

pub returns-clause-all : goal.returns-clause-all
returns-clause-all c premises test each learned h = All-from_recursion (AreAlike test) learned (learned_alike test (Contains premises) (λ d i. All-contains (AreAlike test) premises d each i) learned h)
