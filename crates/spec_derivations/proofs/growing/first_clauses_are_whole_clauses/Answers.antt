-- By the problem without interface equalities.
use Rattle.spec_derivations.specs.Orders.{at_first}
use Rattle.spec_derivations.proofs.SearchTerms.{base_in_search}
use Rattle.spec_derivations.proofs.OrderedTerms.{searched_clauses}
use Rattle.spec_derivations.proofs.Grown.{first_whole}
use Rattle.spec_derivations.proofs.growing.first_clauses_are_whole_clauses.Goals as goal

pub returns-clause-base : goal.returns-clause-base
returns-clause-base c p x i = searched_clauses (at_first p) x (base_in_search (at_first p) x i)

pub returns-clause-whole : goal.returns-clause-whole
returns-clause-whole c p x i = first_whole p x i
