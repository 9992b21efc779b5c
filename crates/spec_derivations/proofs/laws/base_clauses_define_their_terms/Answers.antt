-- By the subterms of the terms.
use Rattle.spec_derivations.proofs.Modelling.{subterm_obeys}
use Rattle.spec_derivations.proofs.laws.base_clauses_define_their_terms.Goals as goal

pub returns : goal.returns
returns c = record { obey = subterm_obeys }
