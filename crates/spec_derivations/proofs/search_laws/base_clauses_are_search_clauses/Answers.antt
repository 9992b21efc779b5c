-- That base clauses are clauses of the search.
use Rattle.spec_derivations.proofs.SearchTerms.{base_in_search}
use Rattle.spec_derivations.proofs.search_laws.base_clauses_are_search_clauses.Goals as goal

pub returns : goal.returns
returns c = base_in_search
