-- That the clauses of any search are clauses of such a search.
use Rattle.spec_derivations.proofs.OrderedTerms.{searched_clauses}
use Rattle.spec_derivations.proofs.search_laws.search_clauses_are_whole_clauses.Goals as goal

pub returns : goal.returns
returns c = searched_clauses
