-- That the clauses of a search are over its terms.
use Rattle.spec_derivations.proofs.SearchTerms.{search_over}
use Rattle.spec_derivations.proofs.search_laws.search_clauses_are_over_search_terms.Goals as goal

pub returns : goal.returns
returns c = search_over
