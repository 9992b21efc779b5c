-- Equal arguments give equal terms, where these are listed.
use Rattle.std.proofs.Common.{false, [], ◌∷◌, refl, arith}
use Rattle.std.proofs.lemmas.Bool.{false≢true, true≢false}
use Rattle.spec_text.proofs.Members.{first, later}
use Rattle.spec_sorts.specs.Terms.{same_term, same_terms}
use Rattle.spec_equality.specs.Examples.{a, b}
use Rattle.spec_equality.specs.Congruence.{IsCongruent, equated, turned}
use Rattle.spec_equality.specs.CongruenceExamples.{f, same}
use Rattle.spec_equality.proofs.Apart.{head_in, one_class, kept_by, by_one}
use Rattle.spec_equality.proofs.congruence_examples.equal_arguments_give_equal_terms.Goals as goal

pub returns : goal.returns
unfolding same_term same_terms
returns c = record {
  follows = by_one (f a ∷ f b ∷ []) (same a b ∷ []) (head_in (f a)) a b (first (f a) (f b ∷ [])) (later (f a) (f b ∷ []) (f b) (first (f b) [])) refl refl (equated a b (first (same a b) []));
  deeper =
      let listed = f a ∷ f b ∷ f (f a) ∷ f (f b) ∷ [] in
      let once : IsCongruent listed (same a b ∷ []) (f a) (f b) = by_one listed (same a b ∷ []) (head_in (f a)) a b (0, omega arith, refl) (1, omega arith, refl) refl refl (equated a b (first (same a b) [])) in
      by_one listed (same a b ∷ []) (head_in (f a)) (f b) (f a) (3, omega arith, refl) (2, omega arith, refl) refl refl (turned (f a) (f b) once);
  not_listed = λ e. false≢true (one_class (f a ∷ []) (same a b ∷ []) (λ t. same_term t (f b))
      (kept_by (λ t. same_term t (f b)) (f a ∷ []) (same a b ∷ []) (λ _. false) (refl, tt) ((refl, λ _. refl), tt)) (f a) (f b) e);
  not_back = λ e. true≢false (one_class (f a ∷ f b ∷ []) (same (f a) (f b) ∷ []) (λ t. same_term t a)
      (kept_by (λ t. same_term t a) (f a ∷ f b ∷ []) (same (f a) (f b) ∷ []) (λ _. false) (refl, (refl, tt)) ((refl, λ _. refl), tt)) a b e);
}
