-- Equal terms have one value.
use Rattle.std.proofs.Common.{◌≡◌, Bool, true, false, inl, inr, List, [], ◌∷◌, Contains, refl, sym, ◌∙◌, ap}
use Rattle.std.proofs.lemmas.Bool.{false≢true}
use Rattle.std.proofs.lemmas.List.Elements.{All-contains}
use Rattle.spec_sorts.specs.Terms.{Term, Terms}
use Rattle.spec_sorts.specs.Literals.{Literal}
use Rattle.spec_sorts.specs.Values.{truth, is_true, Interpretation}
use Rattle.spec_sorts.specs.TermValues.{value_at, values_at}
use Rattle.spec_equality.specs.Reasons.{equal}
use Rattle.spec_equality.proofs.Values.{sides_same, same_sides, by_values}
use Rattle.spec_equality.specs.Congruence.{truth_term, signed_literal, IsCongruent, AreCongruent, IsRefuted, equated, decided, itself, turned, joined, by_arguments, none, more}
use Rattle.spec_equality.specs.Truth.{IsTrueLiteral, AreTrueUnder}

module _ (i : Interpretation) (listed : List Term) (held : List Literal) (true_held : AreTrueUnder i held) where
  is_held : (l : Literal) → Contains held l → IsTrueLiteral i l
  is_held l there = All-contains (IsTrueLiteral i) held l true_held there

  truth_value : (b : Bool) → value_at i [] (truth_term b) ≡ truth b
  unfolding value_at
  truth_value true = refl
  truth_value false = refl

  mutual
    unfolding values_at

    pub one_value : (t u : Term) → IsCongruent listed held t u → value_at i [] t ≡ value_at i [] u
    one_value t u (equated _ _ there) = sides_same i t u (ap is_true (is_held (signed_literal (equal t u) true) there))
    one_value _ _ (decided l there) = is_held l there ∙ sym (truth_value l.positive)
    one_value t _ (itself _) = refl
    one_value u t (turned _ _ e) = sym (one_value t u e)
    one_value t v (joined _ u _ e g) = one_value t u e ∙ one_value u v g
    one_value _ _ (by_arguments h ts us _ _ _ _ es) = by_values i h ts us (all_values ts us es)

    pub all_values : (ts us : Terms) → AreCongruent listed held ts us → values_at i [] ts ≡ values_at i [] us
    all_values _ _ none = refl
    all_values _ _ (more t u ts us e es) = λ j. one_value t u e j ∷ all_values ts us es j

  pub never_refuted : IsRefuted listed held → ⊥
  never_refuted (inl e) = false≢true (ap is_true (sym (truth_value false) ∙ sym (one_value (truth_term true) (truth_term false) e) ∙ truth_value true))
  never_refuted (inr (t, u, there, _, e)) = false≢true (sym (ap is_true (is_held (signed_literal (equal t u) false) there)) ∙ same_sides i t u (one_value t u e))
