-- The clauses are computed.
use Rattle.std.proofs.Common.{refl}
use Rattle.spec_sorts.specs.Terms.{same_term, sort_of, second_sort}
use Rattle.spec_sorts.specs.Subterms.{with_subterms, with_all_subterms}
use Rattle.spec_derivations.proofs.examples.base_clauses_are_stated.Goals as goal

pub returns : goal.returns
unfolding same_term sort_of second_sort with_subterms with_all_subterms
returns c = record { disjunction = refl; choice = refl; negations = refl; assumed = refl }
