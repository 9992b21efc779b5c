-- A term that is known is spoken of, and so are the equalities of the choices below it.
use Rattle.std.proofs.Common.{[], ◌∷◌, Contains, refl, arith}
use Rattle.spec_text.proofs.Members.{first}
use Rattle.spec_sorts.specs.Terms.{Equal, pair, sort_of, second_sort, same_term, same_terms}
use Rattle.spec_sorts.specs.Literals.{literal_of}
use Rattle.spec_sorts.specs.Subterms.{with_subterms, with_all_subterms}
use Rattle.spec_sorts.proofs.LeastSubterms.{least_of}
use Rattle.spec_rules.specs.Examples.{a}
use Rattle.spec_derivations.specs.Problems.{Problem, known_terms}
use Rattle.spec_derivations.specs.Base.{branch_equalities, spoken_terms, search_terms}
use Rattle.spec_derivations.specs.Examples.{speaking, chosen, equals_chosen}
use Rattle.spec_derivations.proofs.SearchTerms.{known_spoken, equalities_spoken}
use Rattle.spec_derivations.proofs.examples.interface_terms_are_spoken_of.Goals as goal

abbrev other : Problem
other = speaking [] (equals_chosen ∷ [])

itself : Contains (search_terms other) equals_chosen
itself = known_spoken other equals_chosen ((least_of (known_terms other)).there equals_chosen (first equals_chosen []))

branch : Contains (branch_equalities chosen) (pair Equal chosen a)
unfolding sort_of
branch = (0, omega arith, refl)

pub returns-clause-itself : goal.returns-clause-itself
returns-clause-itself c = itself

pub returns-clause-choice : goal.returns-clause-choice
returns-clause-choice c = equalities_spoken other chosen (pair Equal chosen a) ((least_of (spoken_terms other)).closed equals_chosen itself chosen (1, omega arith, refl)) branch

pub returns-clause-no_clause : goal.returns-clause-no_clause
unfolding with_subterms with_all_subterms same_term same_terms sort_of second_sort literal_of
returns-clause-no_clause c = refl
