-- That rules of equality look at premises by the one literal that each has.
use Rattle.std.proofs.Common.{◌≡◌, ◌≢◌, List, [], ◌∷◌, map, Option, Some, refl, sym, ap, ◌∙◌, subst}
use Rattle.spec_sorts.specs.Terms.{Term}
use Rattle.spec_sorts.specs.Literals.{Clause}
use Rattle.spec_equality.specs.declared.EqualityRule.{EqualityRule}
use Rattle.spec_equality.specs.declared.EqualityRule.TheVariants as rules
use Rattle.spec_equality.specs.Reasons.{equal, alone, Lead, HaveJoinedArguments}
use Rattle.spec_equality.specs.EqualityRules.{IsReflexive, IsTransitive, IsCongruenceRule, IsCongruentPred, IsSymmetric, IsChained, IsJoined, IsThen, IsElse, IsEquating}
use Rattle.spec_equality.proofs.Sound.{alone_is}

-- a rule that takes no premise
abbrev TakesNone : (List Clause → Clause → Type 0) → Type 0
TakesNone R = (p : Clause) (ps : List Clause) (c : Clause) → R (p ∷ ps) c → ⊥

module _ (ps qs : List Clause) (c : Clause) (same : map alone ps ≡ map alone qs) where
  -- there are none of both, or of neither
  none_same : ps ≡ [] → qs ≡ []
  none_same e = go qs (ap (map alone) (sym e) ∙ same)
    where
      go : (xs : List Clause) → [] ≡ map alone xs → xs ≡ []
      go [] n = refl
      go (x ∷ xs) n = cc

  bare_same : (R : List Clause → Clause → Type 0) → TakesNone R → R ps c → R qs c
  bare_same R takes h = go ps refl h
    where
      go : (xs : List Clause) → ps ≡ xs → R xs c → R qs c
      go [] e r = subst (λ (ys : List Clause). R ys c) (sym (none_same e)) r
      go (x ∷ xs) e r = absurd (takes x xs c r)

  some_same : ps ≢ [] → qs ≢ []
  some_same some e = go ps refl
    where
      go : (xs : List Clause) → ps ≡ xs → ⊥
      go [] is = some is
      go (x ∷ xs) is = let n : alone x ∷ map alone xs ≡ [] = ap (map alone) (sym is) ∙ same ∙ ap (map alone) e in cc

-- one premise of one literal is that
symmetric_same : (ps qs : List Clause) (c : Clause) → map alone ps ≡ map alone qs → IsSymmetric ps c → IsSymmetric qs c
symmetric_same (p ∷ []) (q ∷ []) c same (t, u, is, joins) =
    let one : alone q ≡ Some (equal t u) = cc (same, ap alone is) in
    (t, u, alone_is q (equal t u) one, joins)
symmetric_same (p ∷ []) [] c same h = cc
symmetric_same (p ∷ []) (q ∷ r ∷ qs) c same h = cc
symmetric_same [] qs c same h = absurd h
symmetric_same (p ∷ q ∷ ps) qs c same h = absurd h

pub chained_same : (ps qs : List Clause) (c : Clause) → map alone ps ≡ map alone qs → IsChained ps c → IsChained qs c
chained_same ps qs (e ∷ []) same (t, u, is, some, led) = (t, u, is, some_same ps qs [] same some, subst (λ (rs : List (Option Term)). Lead rs t u) same led)
chained_same ps qs [] same h = absurd h
chained_same ps qs (e ∷ f ∷ c) same h = absurd h

pub joined_same : (ps qs : List Clause) (c : Clause) → map alone ps ≡ map alone qs → IsJoined ps c → IsJoined qs c
joined_same ps qs (e ∷ []) same (t, u, is, joined) = (t, u, is, subst (λ (rs : List (Option Term)). HaveJoinedArguments rs t u) same joined)
joined_same ps qs [] same h = absurd h
joined_same ps qs (e ∷ f ∷ c) same h = absurd h

none_reflexive : TakesNone IsReflexive
none_reflexive p ps c h = h

none_transitive : TakesNone IsTransitive
none_transitive p ps c h = h

none_congruent : TakesNone IsCongruenceRule
none_congruent p ps c h = h

none_pred : TakesNone IsCongruentPred
none_pred p ps c h = h

none_then : TakesNone IsThen
none_then p ps c h = h

none_else : TakesNone IsElse
none_else p ps c h = h

-- premises of the same single literals give the same steps
pub same_steps : (rule : EqualityRule) (ps qs : List Clause) (c : Clause) → map alone ps ≡ map alone qs → IsEquating rule ps c → IsEquating rule qs c
same_steps rules.EqReflexive ps qs c same h = bare_same ps qs c same IsReflexive none_reflexive h
same_steps rules.Refl ps qs c same h = bare_same ps qs c same IsReflexive none_reflexive h
same_steps rules.DistinctElim ps qs c same h = bare_same ps qs c same IsReflexive none_reflexive h
same_steps rules.EqTransitive ps qs c same h = bare_same ps qs c same IsTransitive none_transitive h
same_steps rules.EqCongruent ps qs c same h = bare_same ps qs c same IsCongruenceRule none_congruent h
same_steps rules.EqCongruentPred ps qs c same h = bare_same ps qs c same IsCongruentPred none_pred h
same_steps rules.Symm ps qs c same h = symmetric_same ps qs c same h
same_steps rules.Trans ps qs c same h = chained_same ps qs c same h
same_steps rules.Cong ps qs c same h = joined_same ps qs c same h
same_steps rules.IteThen ps qs c same h = bare_same ps qs c same IsThen none_then h
same_steps rules.IteElse ps qs c same h = bare_same ps qs c same IsElse none_else h
