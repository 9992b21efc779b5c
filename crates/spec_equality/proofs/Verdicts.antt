-- Whether a rule of equality takes a step is a test that computes.
use Rattle.std.proofs.Common.{◌≡◌, ◌≢◌, Bool, false, ◌&&◌, ◌||◌, List, [], ◌∷◌, map, refl, sym, ap, ◌∙◌, subst}
use Rattle.std.specs.Prelude.{not, get_or}
use Rattle.std.specs.Bool.{Decides}
use Rattle.std.proofs.lemmas.Bool.Decides.{Decides-like, Decides-and, Decides-or, Decides-not}
use Rattle.spec_text.specs.Bytes.{Name, among}
use Rattle.spec_sorts.specs.Terms.{Truth, Ite, Term, of, negated, sort_of, same_term}
use Rattle.spec_sorts.specs.Literals.{Clause}
use Rattle.spec_sorts.proofs.SameTerms.{terms_decide}
use Rattle.spec_equality.specs.declared.EqualityRule.{EqualityRule}
use Rattle.spec_equality.specs.declared.EqualityRule.TheVariants as rules
use Rattle.spec_equality.specs.Reasons.{equal, denied, alone, Joins, Lead, HaveJoinedArguments}
use Rattle.spec_equality.specs.EqualityRules.{IsReflexive, IsTransitive, IsCongruenceRule, IsCongruentPred, IsSymmetric, IsChained, IsJoined, IsThen, IsElse, IsEquating, equality_name, every_equality_rule}
use Rattle.spec_equality.specs.Examples.{AreTakers}
use Rattle.spec_equality.proofs.Taking.{sides, on_sides, sides_decide, never, joins, joins_decide, leads, leads_decide, is_some, is_some_decides, are_congruent, are_congruent_decides, ends_equal, ends_equal_decides, ends_denied, ends_denied_decides, branches, on_branches, branches_decide, is_formula, formula_decides}

abbrev pub reflexive : List Clause → Clause → Bool
reflexive [] (e ∷ []) = on_sides same_term (sides e)
reflexive _ _ = false

reflexive_decides : (ps : List Clause) (c : Clause) → Decides (reflexive ps c) (IsReflexive ps c)
reflexive_decides [] (e ∷ []) = Decides-like (on_sides same_term (sides e)) (λ w. (w.0, w.2 ∙ ap (equal w.0) (sym w.3))) (λ w. (w.0, w.0, w.1, refl)) (sides_decide same_term (λ t u. t ≡ u) terms_decide e)
reflexive_decides [] [] = never (λ h. h)
reflexive_decides [] (e ∷ f ∷ c) = never (λ h. h)
reflexive_decides (p ∷ ps) c = never (λ h. h)

-- literals, at least one, that lead from a term to another
abbrev pub led : List Term → Term → Term → Bool
led ls t u = is_some ls && leads (map denied ls) t u

abbrev pub transitive : List Clause → Clause → Bool
transitive [] c = ends_equal led c
transitive _ c = false

transitive_decides : (ps : List Clause) (c : Clause) → Decides (transitive ps c) (IsTransitive ps c)
transitive_decides [] c = Decides-like (ends_equal led c) (λ w. (w.0, w.1.0, w.1.1)) (λ w. (w.0, (w.1, w.2)))
    (ends_equal_decides led (λ ls t u. (ls ≢ []) × Lead (map denied ls) t u) (λ ls t u. Decides-and (is_some ls) (leads (map denied ls) t u) (is_some_decides ls) (leads_decide (map denied ls) t u)) c)
transitive_decides (p ∷ ps) c = never (λ h. h)

-- terms whose arguments the literals join
abbrev pub like : List Term → Term → Term → Bool
like ls t u = are_congruent (map denied ls) t u

like_decides : (ls : List Term) (t u : Term) → Decides (like ls t u) (HaveJoinedArguments (map denied ls) t u)
like_decides ls t u = are_congruent_decides (map denied ls) t u

abbrev pub congruent : List Clause → Clause → Bool
congruent [] c = ends_equal like c
congruent _ c = false

congruent_decides : (ps : List Clause) (c : Clause) → Decides (congruent ps c) (IsCongruenceRule ps c)
congruent_decides [] c = ends_equal_decides like (λ ls t u. HaveJoinedArguments (map denied ls) t u) like_decides c
congruent_decides (p ∷ ps) c = never (λ h. h)

abbrev pub formulas_like : List Term → Term → Term → Bool
formulas_like ls t u = is_formula t && like ls t u

abbrev pub pred : List Clause → Clause → Bool
pred [] c = ends_equal formulas_like c || ends_denied like c
pred _ c = false

pred_decides : (ps : List Clause) (c : Clause) → Decides (pred ps c) (IsCongruentPred ps c)
pred_decides [] c = Decides-or (ends_equal formulas_like c) (ends_denied like c)
    (Decides-like (ends_equal formulas_like c) (λ w. (w.0, w.1.0, w.1.1)) (λ w. (w.0, (w.1, w.2)))
    (ends_equal_decides formulas_like (λ ls t u. (sort_of t ≡ Truth) × HaveJoinedArguments (map denied ls) t u) (λ ls t u. Decides-and (is_formula t) (like ls t u) (formula_decides t) (like_decides ls t u)) c))
    (ends_denied_decides like (λ ls t u. HaveJoinedArguments (map denied ls) t u) like_decides c)
pred_decides (p ∷ ps) c = never (λ h. h)

abbrev pub symmetric : List Clause → Clause → Bool
symmetric ((e ∷ []) ∷ []) c = on_sides (joins (alone c)) (sides e)
symmetric _ c = false

symmetric_decides : (ps : List Clause) (c : Clause) → Decides (symmetric ps c) (IsSymmetric ps c)
symmetric_decides ((e ∷ []) ∷ []) c = Decides-like (on_sides (joins (alone c)) (sides e)) (λ w. (w.0, w.1, ap (λ x. x ∷ []) w.2, w.3)) (λ w. (w.0, w.1, cc, w.3)) (sides_decide (joins (alone c)) (Joins (alone c)) (joins_decide (alone c)) e)
symmetric_decides [] c = never (λ h. h)
symmetric_decides ([] ∷ []) c = never (λ w. let n = w.2 in cc)
symmetric_decides ((e ∷ f ∷ p) ∷ []) c = never (λ w. let n = w.2 in cc)
symmetric_decides ([] ∷ q ∷ ps) c = never (λ h. h)
symmetric_decides ((e ∷ []) ∷ q ∷ ps) c = never (λ h. h)
symmetric_decides ((e ∷ f ∷ p) ∷ q ∷ ps) c = never (λ h. h)

-- premises, at least one, that lead from a term to another
abbrev pub carried : List Clause → Term → Term → Bool
carried ps t u = is_some ps && leads (map alone ps) t u

abbrev pub chained : List Clause → Clause → Bool
chained ps (e ∷ []) = on_sides (carried ps) (sides e)
chained ps _ = false

chained_decides : (ps : List Clause) (c : Clause) → Decides (chained ps c) (IsChained ps c)
chained_decides ps (e ∷ []) = Decides-like (on_sides (carried ps) (sides e)) (λ w. (w.0, w.1, w.2, w.3.0, w.3.1)) (λ w. (w.0, w.1, w.2, (w.3, w.4)))
    (sides_decide (carried ps) (λ t u. (ps ≢ []) × Lead (map alone ps) t u) (λ t u. Decides-and (is_some ps) (leads (map alone ps) t u) (is_some_decides ps) (leads_decide (map alone ps) t u)) e)
chained_decides ps [] = never (λ h. h)
chained_decides ps (e ∷ f ∷ c) = never (λ h. h)

abbrev pub joined : List Clause → Clause → Bool
joined ps (e ∷ []) = on_sides (are_congruent (map alone ps)) (sides e)
joined ps _ = false

joined_decides : (ps : List Clause) (c : Clause) → Decides (joined ps c) (IsJoined ps c)
joined_decides ps (e ∷ []) = sides_decide (are_congruent (map alone ps)) (HaveJoinedArguments (map alone ps)) (are_congruent_decides (map alone ps)) e
joined_decides ps [] = never (λ h. h)
joined_decides ps (e ∷ f ∷ c) = never (λ h. h)

-- the choice by a condition that a literal denies, or is, is a branch of another sort than Bool
abbrev pub then_chosen : Term → Term → Term → Term → Term → Bool
then_chosen l u c s t = same_term l (negated c) && (same_term u s && not (is_formula u))

then_decides : (l u c s t : Term) → Decides (then_chosen l u c s t) ((l ≡ negated c) × ((u ≡ s) × (sort_of u ≢ Truth)))
then_decides l u c s t = Decides-and (same_term l (negated c)) (same_term u s && not (is_formula u)) (terms_decide l (negated c)) (Decides-and (same_term u s) (not (is_formula u)) (terms_decide u s) (Decides-not (is_formula u) (formula_decides u)))

abbrev pub else_chosen : Term → Term → Term → Term → Term → Bool
else_chosen l u c s t = same_term l c && (same_term u t && not (is_formula u))

else_decides : (l u c s t : Term) → Decides (else_chosen l u c s t) ((l ≡ c) × ((u ≡ t) × (sort_of u ≢ Truth)))
else_decides l u c s t = Decides-and (same_term l c) (same_term u t && not (is_formula u)) (terms_decide l c) (Decides-and (same_term u t) (not (is_formula u)) (terms_decide u t) (Decides-not (is_formula u) (formula_decides u)))

abbrev pub first_branch : List Clause → Clause → Bool
first_branch [] (l ∷ e ∷ []) = on_sides (λ x u. on_branches (then_chosen l u) (branches x)) (sides e)
first_branch _ _ = false

first_branch_decides : (ps : List Clause) (c : Clause) → Decides (first_branch ps c) (IsThen ps c)
first_branch_decides [] (l ∷ e ∷ []) = Decides-like (on_sides (λ x u. on_branches (then_chosen l u) (branches x)) (sides e)) there back
    (sides_decide (λ x u. on_branches (then_chosen l u) (branches x)) (λ x u. (c : Term) × (s : Term) × (t : Term) × (x ≡ of Ite (c ∷ s ∷ t ∷ [])) × ((l ≡ negated c) × ((u ≡ s) × (sort_of u ≢ Truth))))
    (λ x u. branches_decide (then_chosen l u) (λ c s t. (l ≡ negated c) × ((u ≡ s) × (sort_of u ≢ Truth))) (then_decides l u) x) e)
  where
    there : (x : Term) × (u : Term) × (e ≡ equal x u) × ((c : Term) × (s : Term) × (t : Term) × (x ≡ of Ite (c ∷ s ∷ t ∷ [])) × ((l ≡ negated c) × ((u ≡ s) × (sort_of u ≢ Truth)))) → IsThen [] (l ∷ e ∷ [])
    there (x, u, is, (c, s, t, chooses, (denies, (same, sort)))) = (c, s, t, denies, is ∙ (λ i. equal (chooses i) (same i)), subst (λ y. sort_of y ≢ Truth) same sort)

    back : IsThen [] (l ∷ e ∷ []) → (x : Term) × (u : Term) × (e ≡ equal x u) × ((c : Term) × (s : Term) × (t : Term) × (x ≡ of Ite (c ∷ s ∷ t ∷ [])) × ((l ≡ negated c) × ((u ≡ s) × (sort_of u ≢ Truth))))
    back (c, s, t, denies, is, sort) = (of Ite (c ∷ s ∷ t ∷ []), s, is, (c, s, t, refl, (denies, (refl, sort))))
first_branch_decides [] [] = never (λ h. h)
first_branch_decides [] (l ∷ []) = never (λ h. h)
first_branch_decides [] (l ∷ e ∷ f ∷ c) = never (λ h. h)
first_branch_decides (p ∷ ps) c = never (λ h. h)

abbrev pub second_branch : List Clause → Clause → Bool
second_branch [] (l ∷ e ∷ []) = on_sides (λ x u. on_branches (else_chosen l u) (branches x)) (sides e)
second_branch _ _ = false

second_branch_decides : (ps : List Clause) (c : Clause) → Decides (second_branch ps c) (IsElse ps c)
second_branch_decides [] (l ∷ e ∷ []) = Decides-like (on_sides (λ x u. on_branches (else_chosen l u) (branches x)) (sides e)) there back
    (sides_decide (λ x u. on_branches (else_chosen l u) (branches x)) (λ x u. (c : Term) × (s : Term) × (t : Term) × (x ≡ of Ite (c ∷ s ∷ t ∷ [])) × ((l ≡ c) × ((u ≡ t) × (sort_of u ≢ Truth))))
    (λ x u. branches_decide (else_chosen l u) (λ c s t. (l ≡ c) × ((u ≡ t) × (sort_of u ≢ Truth))) (else_decides l u) x) e)
  where
    there : (x : Term) × (u : Term) × (e ≡ equal x u) × ((c : Term) × (s : Term) × (t : Term) × (x ≡ of Ite (c ∷ s ∷ t ∷ [])) × ((l ≡ c) × ((u ≡ t) × (sort_of u ≢ Truth)))) → IsElse [] (l ∷ e ∷ [])
    there (x, u, is, (c, s, t, chooses, (holds, (same, sort)))) = (s, t, is ∙ (λ i. equal ((chooses ∙ ap (λ y. of Ite (y ∷ s ∷ t ∷ [])) (sym holds)) i) (same i)), subst (λ y. sort_of y ≢ Truth) same sort)

    back : IsElse [] (l ∷ e ∷ []) → (x : Term) × (u : Term) × (e ≡ equal x u) × ((c : Term) × (s : Term) × (t : Term) × (x ≡ of Ite (c ∷ s ∷ t ∷ [])) × ((l ≡ c) × ((u ≡ t) × (sort_of u ≢ Truth))))
    back (s, t, is, sort) = (of Ite (l ∷ s ∷ t ∷ []), t, is, (l, s, t, refl, (refl, (refl, sort))))
second_branch_decides [] [] = never (λ h. h)
second_branch_decides [] (l ∷ []) = never (λ h. h)
second_branch_decides [] (l ∷ e ∷ f ∷ c) = never (λ h. h)
second_branch_decides (p ∷ ps) c = never (λ h. h)

-- whether a rule takes a step
abbrev pub takes : EqualityRule → List Clause → Clause → Bool
takes rules.EqReflexive ps c = reflexive ps c
takes rules.Refl ps c = reflexive ps c
takes rules.DistinctElim ps c = reflexive ps c
takes rules.EqTransitive ps c = transitive ps c
takes rules.EqCongruent ps c = congruent ps c
takes rules.EqCongruentPred ps c = pred ps c
takes rules.Symm ps c = symmetric ps c
takes rules.Trans ps c = chained ps c
takes rules.Cong ps c = joined ps c
takes rules.IteThen ps c = first_branch ps c
takes rules.IteElse ps c = second_branch ps c

takes_decides : (rule : EqualityRule) (ps : List Clause) (c : Clause) → Decides (takes rule ps c) (IsEquating rule ps c)
takes_decides rules.EqReflexive ps c = reflexive_decides ps c
takes_decides rules.Refl ps c = reflexive_decides ps c
takes_decides rules.DistinctElim ps c = reflexive_decides ps c
takes_decides rules.EqTransitive ps c = transitive_decides ps c
takes_decides rules.EqCongruent ps c = congruent_decides ps c
takes_decides rules.EqCongruentPred ps c = pred_decides ps c
takes_decides rules.Symm ps c = symmetric_decides ps c
takes_decides rules.Trans ps c = chained_decides ps c
takes_decides rules.Cong ps c = joined_decides ps c
takes_decides rules.IteThen ps c = first_branch_decides ps c
takes_decides rules.IteElse ps c = second_branch_decides ps c

-- tests that agree on each rule of the list agree on each rule
agree : (f g : EqualityRule → Bool) → map f every_equality_rule ≡ map g every_equality_rule → (rule : EqualityRule) → f rule ≡ g rule
agree f g e rules.EqReflexive = ap (λ bs. get_or bs 0 false) e
agree f g e rules.EqTransitive = ap (λ bs. get_or bs 1 false) e
agree f g e rules.EqCongruent = ap (λ bs. get_or bs 2 false) e
agree f g e rules.EqCongruentPred = ap (λ bs. get_or bs 3 false) e
agree f g e rules.Refl = ap (λ bs. get_or bs 4 false) e
agree f g e rules.Symm = ap (λ bs. get_or bs 5 false) e
agree f g e rules.Trans = ap (λ bs. get_or bs 6 false) e
agree f g e rules.Cong = ap (λ bs. get_or bs 7 false) e
agree f g e rules.DistinctElim = ap (λ bs. get_or bs 8 false) e
agree f g e rules.IteThen = ap (λ bs. get_or bs 9 false) e
agree f g e rules.IteElse = ap (λ bs. get_or bs 10 false) e

-- a step is taken by the rules of the names for which the test says so
pub taken : {names : List Name} {ps : List Clause} {c : Clause} → map (λ rule. takes rule ps c) every_equality_rule ≡ map (λ rule. among names (equality_name rule)) every_equality_rule → AreTakers names ps c
taken {names} {ps} {c} e = record {
  exact = λ rule.
      let same = agree (λ rule. takes rule ps c) (λ rule. among names (equality_name rule)) e rule in
      let d = takes_decides rule ps c in
      (λ right. sym same ∙ d.1 right, λ named. d.0 (same ∙ named));
}
