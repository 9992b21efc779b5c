-- That the clauses of such a search are over its terms.
use Rattle.spec_derivations.proofs.OrderedTerms.{whole_over}
use Rattle.spec_derivations.proofs.search_laws.whole_clauses_are_over_whole_terms.Goals as goal

pub returns : goal.returns
returns c = whole_over
