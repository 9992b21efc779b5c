-- Sides that are stated to be different, and come together or not.
use Rattle.std.proofs.Common.{◌≡◌, true, false, ◌||◌, inl, inr, [], ◌∷◌, refl, arith}
use Rattle.std.proofs.lemmas.Bool.{false≢true, true≢false}
use Rattle.spec_sorts.specs.Terms.{Term, same_term, same_terms, sort_of, second_sort}
use Rattle.spec_sorts.specs.Literals.{Literal}
use Rattle.spec_equality.specs.Reasons.{equal}
use Rattle.spec_equality.specs.Examples.{a, b}
use Rattle.spec_equality.specs.Congruence.{truth_term, signed_literal, equated}
use Rattle.spec_equality.specs.CongruenceExamples.{f, same, apart}
use Rattle.spec_equality.proofs.Apart.{left_of, right_of, head_in, one_class, member, kept_by, by_one}
use Rattle.spec_equality.proofs.congruence_examples.joined_sides_are_refuted.Goals as goal

pub returns : goal.returns
unfolding same_term same_terms sort_of second_sort
returns c = record {
  joined = inr (f a, f b, (0, omega arith, refl), refl, by_one (f a ∷ f b ∷ []) (apart (f a) (f b) ∷ same a b ∷ []) (head_in (f a)) a b (0, omega arith, refl) (1, omega arith, refl) refl refl (equated a b (1, omega arith, refl)));
  stay = λ r.
      let listed = f a ∷ f b ∷ [] in
      let held = apart a b ∷ same (f a) (f b) ∷ [] in
      let truth = λ (t : Term). same_term t (truth_term true) || same_term t (equal (f a) (f b)) in
      let side = λ (t : Term). same_term t a in
      elim r [
        | inl e ↦ true≢false (one_class listed held truth (kept_by truth listed held (λ _. false) (refl, (refl, tt)) ((refl, λ _. refl), ((refl, λ _. refl), tt))) (truth_term true) (truth_term false) e)
        | inr (t, u, there, _, e) ↦
            member side (λ (l : Literal). l.positive ≡ false → side (left_of l.atom) ≡ side (right_of l.atom) → ⊥) held
            ((λ _ s. true≢false s), ((λ p _. true≢false p), tt)) (signed_literal (equal t u) false) there refl
            (one_class listed held side (kept_by side listed held (λ _. false) (refl, (refl, tt)) ((refl, λ p. absurd (false≢true p)), ((refl, λ _. refl), tt))) t u e)
      ];
}
