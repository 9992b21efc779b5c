-- Held literals' terms are their truth values, and no others are.
use Rattle.std.proofs.Common.{true, false, inr, [], ◌∷◌, refl, arith}
use Rattle.std.proofs.lemmas.Bool.{true≢false}
use Rattle.spec_sorts.specs.Terms.{Equal, Term, same_head, same_term, same_terms, sort_of, second_sort}
use Rattle.spec_equality.specs.Reasons.{equal}
use Rattle.spec_equality.specs.Examples.{a, b}
use Rattle.spec_equality.specs.Congruence.{truth_term, equated, decided}
use Rattle.spec_equality.specs.CongruenceExamples.{f, h, same, apart}
use Rattle.spec_equality.proofs.Apart.{head_in, one_class, kept_by, by_one}
use Rattle.spec_equality.proofs.congruence_examples.held_terms_are_truth_values.Goals as goal

pub returns : goal.returns
unfolding same_term same_terms sort_of second_sort
returns c = record {
  holds = by_one (h (equal a b) ∷ h (truth_term true) ∷ []) (same a b ∷ []) (head_in (h a)) (equal a b) (truth_term true)
      (0, omega arith, refl) (1, omega arith, refl) refl refl (decided (same a b) (0, omega arith, refl));
  fails = by_one (h (equal a b) ∷ h (truth_term false) ∷ []) (apart a b ∷ []) (head_in (h a)) (equal a b) (truth_term false)
      (0, omega arith, refl) (1, omega arith, refl) refl refl (decided (apart a b) (0, omega arith, refl));
  both = inr (a, b, (1, omega arith, refl), refl, equated a b (0, omega arith, refl));
  not_held = λ e.
      let listed = f a ∷ f b ∷ equal (f a) (f b) ∷ [] in
      let class = λ (t : Term). same_term t (equal (f a) (f b)) in
      true≢false (one_class listed (same a b ∷ []) class
      (kept_by class listed (same a b ∷ []) (λ g. same_head g Equal) (refl, (refl, (refl, tt))) ((refl, λ _. refl), tt)) (equal (f a) (f b)) (truth_term true) e);
}
