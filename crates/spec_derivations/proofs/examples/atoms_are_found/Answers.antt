-- Subterms are computed, and sorts tell what is no atom.
use Rattle.std.proofs.Common.{◌≡◌, ◌≢◌, true, [], ◌∷◌, refl, sym, ap, ◌∙◌}
use Rattle.std.proofs.lemmas.Bool.{false≢true}
use Rattle.spec_sorts.specs.Terms.{Truth, Number, True, Equal, Term, of, same_term, same_sort, sort_of, second_sort}
use Rattle.spec_sorts.specs.Subterms.{has_term, with_subterms, with_all_subterms}
use Rattle.spec_sorts.proofs.Members.{has_term-Decides}
use Rattle.spec_rules.specs.Examples.{p, a, b}
use Rattle.spec_derivations.specs.Problems.{Problem, known_subterms}
use Rattle.spec_derivations.specs.Spent.{IsAtomOf, subterm, with_first, with_second, forth, back}
use Rattle.spec_derivations.specs.Examples.{speaking, asserting, p_or_not_q, chosen, equals_chosen}
use Rattle.spec_derivations.proofs.Spending.{p_sort}
use Rattle.spec_derivations.proofs.examples.atoms_are_found.Goals as goal

-- a check that asks nothing, with a disjunction besides
abbrev disjunction_interface : Problem
disjunction_interface = speaking [] (p_or_not_q ∷ [])

p_there : has_term (known_subterms disjunction_interface) p ≡ true
unfolding same_term with_subterms with_all_subterms
p_there = refl

chosen_there : has_term (known_subterms (asserting (equals_chosen ∷ []))) chosen ≡ true
unfolding same_term with_subterms with_all_subterms
chosen_there = refl

number_differs : Number ≢ Truth
number_differs e = false≢true (ap (same_sort Truth) e)

a_sort : sort_of a ≡ Number
unfolding sort_of
a_sort = refl

no_truth_value : (k : Problem) (t : Term) → IsAtomOf k t → t ≢ of True []
no_truth_value k _ (subterm t there sort not_true not_false) e = not_true e
no_truth_value k _ (with_first c s t there other) e = cc
no_truth_value k _ (with_second c s t there other) e = cc
no_truth_value k _ (forth s t h number) e = cc
no_truth_value k _ (back s t h number) e = cc

no_number : (k : Problem) (t : Term) → IsAtomOf k t → t ≢ a
no_number k _ (subterm t there sort not_true not_false) e = number_differs (sym a_sort ∙ sym (ap sort_of e) ∙ sort)
no_number k _ (with_first c s t there other) e = cc
no_number k _ (with_second c s t there other) e = cc
no_number k _ (forth s t h number) e = cc
no_number k _ (back s t h number) e = cc

equality_is_atom : IsAtomOf (asserting (equals_chosen ∷ [])) (of Equal (chosen ∷ a ∷ []))
equality_is_atom = with_first p_or_not_q a b ((has_term-Decides (known_subterms (asserting (equals_chosen ∷ []))) chosen).0 chosen_there) (λ e. number_differs (sym a_sort ∙ e))

chosen_sort : sort_of chosen ≡ Number
unfolding sort_of second_sort
chosen_sort = refl

pub returns : goal.returns
returns c = record {
  interface = subterm p ((has_term-Decides (known_subterms disjunction_interface) p).0 p_there) p_sort (λ e. cc) (λ e. cc);
  choice = equality_is_atom;
  order = back chosen a equality_is_atom chosen_sort;
  no_truth_value = λ k h. no_truth_value k _ h refl;
  no_number = λ k h. no_number k _ h refl;
}
