-- That a chain's clauses are false from the last to the first.
use Rattle.std.proofs.Common.{◌∷◌, map}
use Rattle.spec_sorts.specs.Literals.{complement, literals_of}
use Rattle.spec_proofs.proofs.Chains.{chain_resolves, mapped_within}
use Rattle.spec_rules.proofs.laws.chains_are_resolvents.Goals as goal

pub returns : goal.returns
returns c = record {
  any = λ premises first rest clause inside. chain_resolves complement (map literals_of premises) (literals_of clause) (literals_of first) (map literals_of rest) (mapped_within literals_of (first ∷ rest) premises inside);
  in_order = λ first rest clause. chain_resolves complement (literals_of first ∷ map literals_of rest) (literals_of clause) (literals_of first) (map literals_of rest) (λ x x_in. x_in);
}
