-- That what follows by a rule of equality from what is true is true.
use Rattle.std.proofs.Common.{◌≡◌, Bool, true, false, ◌||◌, inl, inr, cond, List, [], ◌∷◌, ◌++◌, map, All, Option, Some, Contains, refl, sym, ap, ◌∙◌, subst}
use Rattle.std.specs.List.{list_any}
use Rattle.std.proofs.lemmas.Bool.{false≢true}
use Rattle.std.proofs.lemmas.List.Elements.{All-contains}
use Rattle.std.proofs.lemmas.List.Folds.{list_any-append, list_any_at}
use Rattle.std.proofs.Math.Bool.{or-false, or-true}
use Rattle.spec_text.proofs.Members.{first, later, from_image}
use Rattle.spec_sorts.specs.Terms.{Not, Ite, Term, Terms, app, nil, cons, list_of, of, negated}
use Rattle.spec_sorts.specs.Values.{Value, is_true, Interpretation}
use Rattle.spec_sorts.specs.TermValues.{value_at, values_at}
use Rattle.spec_sorts.specs.Literals.{Clause}
use Rattle.spec_equality.specs.declared.EqualityRule.{EqualityRule}
use Rattle.spec_equality.specs.declared.EqualityRule.TheVariants as rules
use Rattle.spec_equality.specs.Reasons.{equal, denied, alone, Joins, Lead, AreJoined, HaveJoinedArguments}
use Rattle.spec_equality.specs.EqualityRules.{IsReflexive, IsTransitive, IsCongruenceRule, IsCongruentPred, IsSymmetric, IsChained, IsJoined, IsThen, IsElse, IsEquating, IsTrueClause}
use Rattle.spec_equality.proofs.Values.{IsTrueTerm, sides_same, same_sides, true_or_not, negated_true, by_values}

-- a literal that denies a term is its negation
pub denied_is : (l e : Term) → denied l ≡ Some e → l ≡ negated e
denied_is (app Not (cons t nil)) e s = cc
denied_is (app Not nil) e s = cc
denied_is (app Not (cons t (cons u us))) e s = cc
denied_is (app h ts) e s = cc

-- a clause of one literal is that
pub alone_is : (c : Clause) (e : Term) → alone c ≡ Some e → c ≡ e ∷ []
alone_is [] e s = cc
alone_is (t ∷ []) e s = cc
alone_is (t ∷ u ∷ us) e s = cc

module _ (i : Interpretation) where
  -- the value of a term
  abbrev value : Term → Value
  value t = value_at i [] t

  -- the terms that the reasons are are true
  abbrev AreTrue : List (Option Term) → Type 0
  AreTrue reasons = (e : Term) → Contains reasons (Some e) → IsTrueTerm i e

  -- terms that a reason joins have one value
  joined_same : (r : Option Term) (t u : Term) → ((e : Term) → r ≡ Some e → IsTrueTerm i e) → Joins r t u → value t ≡ value u
  joined_same r t u each (inl e) = sides_same i t u (each (equal t u) e)
  joined_same r t u each (inr e) = sym (sides_same i u t (each (equal u t) e))

  -- terms between which reasons lead have one value
  led_same : (rs : List (Option Term)) (t u : Term) → AreTrue rs → Lead rs t u → value t ≡ value u
  led_same [] t u each led = ap value led
  led_same (r ∷ rs) t u each (next, joins, led) =
      joined_same r t next (λ e is. each e (subst (λ x. Contains (r ∷ rs) x) is (first r rs))) joins
      ∙ led_same rs next u (λ e here. each e (later r rs (Some e) here)) led

  -- and so have joined arguments, in their order
  all_same : (rs : List (Option Term)) (ts us : Terms) → AreTrue rs → AreJoined rs (list_of ts) (list_of us) → values_at i [] ts ≡ values_at i [] us
  unfolding values_at
  all_same rs nil nil each h = refl
  all_same rs (cons t ts) (cons u us) each (here, rest) = λ j. one j ∷ all_same rs ts us each rest j
    where
      one : value t ≡ value u
      one = elim here [
        | inl e ↦ ap value e
        | inr (r, there, joins) ↦ joined_same r t u (λ e is. each e (subst (λ x. Contains rs x) is there)) joins
      ]
  all_same rs nil (cons u us) each h = absurd h
  all_same rs (cons t ts) nil each h = absurd h

  congruent_same : (rs : List (Option Term)) (t u : Term) → AreTrue rs → HaveJoinedArguments rs t u → value t ≡ value u
  congruent_same rs (app h ts) (app g us) each (same, some, joined) = by_values i h ts us (all_same rs ts us each joined) ∙ ap (λ k. value (app k us)) same

  -- what single premises say is true where the premises are
  premises_true : (premises : List Clause) → All (IsTrueClause i) premises → AreTrue (map alone premises)
  premises_true premises each e here =
      let c = from_image alone premises (Some e) here in
      sym (or-false (is_true (value e))) ∙ subst (IsTrueClause i) (alone_is c.0 e c.2) (All-contains (IsTrueClause i) premises c.0 each c.1)

  -- where no literal is true, what the literals deny is
  denied_true : (literals : List Term) → list_any (λ t. is_true (value t)) literals ≡ false → AreTrue (map denied literals)
  denied_true literals none e here =
      let l = from_image denied literals (Some e) here in
      true_or_not i e (go (is_true (value (negated e))) refl (subst (λ t. Contains literals t) (denied_is l.0 e l.2) l.1))
    where
      go : (b : Bool) → is_true (value (negated e)) ≡ b → Contains literals (negated e) → is_true (value (negated e)) ≡ false
      go true is there = absurd (false≢true (sym none ∙ list_any_at (λ t. is_true (value t)) literals there.0 (negated e) there.1 (ap (λ t. is_true (value t)) there.2 ∙ is)))
      go false is there = is

  -- a clause is true where what comes after some literals is true if what they deny is
  behind_true : (literals rest : List Term) → (AreTrue (map denied literals) → IsTrueClause i rest) → IsTrueClause i (literals ++ rest)
  behind_true literals rest h = list_any-append (λ t. is_true (value t)) literals rest ∙ go (list_any (λ t. is_true (value t)) literals) refl
    where
      go : (b : Bool) → list_any (λ t. is_true (value t)) literals ≡ b → list_any (λ t. is_true (value t)) literals || list_any (λ t. is_true (value t)) rest ≡ true
      go true e = ap (λ b. b || list_any (λ t. is_true (value t)) rest) e
      go false e = ap (λ b. list_any (λ t. is_true (value t)) literals || b) (h (denied_true literals e)) ∙ or-true (list_any (λ t. is_true (value t)) literals)

  -- a clause of one equality
  equality_true : (t u : Term) → value t ≡ value u → IsTrueClause i (equal t u ∷ [])
  equality_true t u e = ap (λ b. b || false) (same_sides i t u e)

  -- a negation with a term of the same value
  either_true : (t u : Term) → value t ≡ value u → IsTrueClause i (negated t ∷ u ∷ [])
  either_true t u e = go (is_true (value t)) refl
    where
      go : (b : Bool) → is_true (value t) ≡ b → is_true (value (negated t)) || (is_true (value u) || false) ≡ true
      go true is = ap (λ b. is_true (value (negated t)) || (b || false)) (ap is_true (sym e) ∙ is) ∙ or-true (is_true (value (negated t)))
      go false is = ap (λ b. b || (is_true (value u) || false)) (negated_true i t is)

  reflexive_true : (premises : List Clause) (clause : Clause) → IsReflexive premises clause → IsTrueClause i clause
  reflexive_true [] (e ∷ []) (t, is) = subst (λ x. IsTrueClause i (x ∷ [])) (sym is) (equality_true t t refl)
  reflexive_true _ _ h = absurd h

  transitive_true : (premises : List Clause) (clause : Clause) → IsTransitive premises clause → IsTrueClause i clause
  transitive_true [] clause (e, some, led) = subst (IsTrueClause i) (sym e.same)
      (behind_true e.literals (equal e.one e.other ∷ []) (λ each. equality_true e.one e.other (led_same (map denied e.literals) e.one e.other each led)))
  transitive_true _ _ h = absurd h

  congruent_true : (premises : List Clause) (clause : Clause) → IsCongruenceRule premises clause → IsTrueClause i clause
  congruent_true [] clause (e, joined) = subst (IsTrueClause i) (sym e.same)
      (behind_true e.literals (equal e.one e.other ∷ []) (λ each. equality_true e.one e.other (congruent_same (map denied e.literals) e.one e.other each joined)))
  congruent_true _ _ h = absurd h

  pred_true : (premises : List Clause) (clause : Clause) → IsCongruentPred premises clause → IsTrueClause i clause
  pred_true [] clause (inl (e, sort, joined)) = congruent_true [] clause (e, joined)
  pred_true [] clause (inr (e, joined)) = subst (IsTrueClause i) (sym e.same)
      (behind_true e.literals (negated e.one ∷ e.other ∷ []) (λ each. either_true e.one e.other (congruent_same (map denied e.literals) e.one e.other each joined)))
  pred_true _ _ h = absurd h

  symmetric_true : (premises : List Clause) (clause : Clause) → All (IsTrueClause i) premises → IsSymmetric premises clause → IsTrueClause i clause
  symmetric_true (p ∷ []) clause each (t, u, is, joins) = elim joins [
    | inl e ↦ subst (IsTrueClause i) (sym (alone_is clause (equal t u) e)) (equality_true t u same)
    | inr e ↦ subst (IsTrueClause i) (sym (alone_is clause (equal u t) e)) (equality_true u t (sym same))
  ]
    where
      same : value t ≡ value u
      same = sides_same i t u (premises_true (p ∷ []) each (equal t u) (subst (λ x. Contains (x ∷ []) (Some (equal t u))) (sym (ap alone is)) (first (Some (equal t u)) [])))
  symmetric_true _ _ each h = absurd h

  chained_true : (premises : List Clause) (clause : Clause) → All (IsTrueClause i) premises → IsChained premises clause → IsTrueClause i clause
  chained_true premises (e ∷ []) each (t, u, is, some, led) = subst (λ x. IsTrueClause i (x ∷ [])) (sym is) (equality_true t u (led_same (map alone premises) t u (premises_true premises each) led))
  chained_true _ _ each h = absurd h

  joined_true : (premises : List Clause) (clause : Clause) → All (IsTrueClause i) premises → IsJoined premises clause → IsTrueClause i clause
  joined_true premises (e ∷ []) each (t, u, is, joined) = subst (λ x. IsTrueClause i (x ∷ [])) (sym is) (equality_true t u (congruent_same (map alone premises) t u (premises_true premises each) joined))
  joined_true _ _ each h = absurd h

  -- the branch that is chosen has the choice's value
  then_same : (c s t : Term) → is_true (value c) ≡ true → value (of Ite (c ∷ s ∷ t ∷ [])) ≡ value s
  unfolding value_at values_at
  then_same c s t e = go (is_true (value c)) e
    where
      go : (b : Bool) → b ≡ true → cond b (value s) (value t) ≡ value s
      go true e = refl
      go false e = absurd (false≢true e)

  else_same : (c s t : Term) → is_true (value c) ≡ false → value (of Ite (c ∷ s ∷ t ∷ [])) ≡ value t
  unfolding value_at values_at
  else_same c s t e = go (is_true (value c)) e
    where
      go : (b : Bool) → b ≡ false → cond b (value s) (value t) ≡ value t
      go true e = absurd (false≢true (sym e))
      go false e = refl

  then_true : (premises : List Clause) (clause : Clause) → IsThen premises clause → IsTrueClause i clause
  then_true [] (l ∷ e ∷ []) (c, s, t, denies, is, sort) = subst (λ x. IsTrueClause i (x ∷ e ∷ [])) (sym denies) (subst (λ x. IsTrueClause i (negated c ∷ x ∷ [])) (sym is) (go (is_true (value c)) refl))
    where
      go : (b : Bool) → is_true (value c) ≡ b → IsTrueClause i (negated c ∷ equal (of Ite (c ∷ s ∷ t ∷ [])) s ∷ [])
      go true holds = ap (λ b. is_true (value (negated c)) || b) (equality_true (of Ite (c ∷ s ∷ t ∷ [])) s (then_same c s t holds)) ∙ or-true (is_true (value (negated c)))
      go false fails = ap (λ b. b || list_any (λ t. is_true (value t)) (equal (of Ite (c ∷ s ∷ t ∷ [])) s ∷ [])) (negated_true i c fails)
  then_true _ _ h = absurd h

  else_true : (premises : List Clause) (clause : Clause) → IsElse premises clause → IsTrueClause i clause
  else_true [] (c ∷ e ∷ []) (s, t, is, sort) = subst (λ x. IsTrueClause i (c ∷ x ∷ [])) (sym is) (go (is_true (value c)) refl)
    where
      go : (b : Bool) → is_true (value c) ≡ b → IsTrueClause i (c ∷ equal (of Ite (c ∷ s ∷ t ∷ [])) t ∷ [])
      go true holds = ap (λ b. b || list_any (λ t. is_true (value t)) (equal (of Ite (c ∷ s ∷ t ∷ [])) t ∷ [])) holds
      go false fails = ap (λ b. is_true (value c) || b) (equality_true (of Ite (c ∷ s ∷ t ∷ [])) t (else_same c s t fails)) ∙ or-true (is_true (value c))
  else_true _ _ h = absurd h

  -- what follows by a rule of equality from what is true is true
  pub equating_true : (rule : EqualityRule) (premises : List Clause) (clause : Clause) → All (IsTrueClause i) premises → IsEquating rule premises clause → IsTrueClause i clause
  equating_true rules.EqReflexive premises clause each right = reflexive_true premises clause right
  equating_true rules.Refl premises clause each right = reflexive_true premises clause right
  equating_true rules.DistinctElim premises clause each right = reflexive_true premises clause right
  equating_true rules.EqTransitive premises clause each right = transitive_true premises clause right
  equating_true rules.EqCongruent premises clause each right = congruent_true premises clause right
  equating_true rules.EqCongruentPred premises clause each right = pred_true premises clause right
  equating_true rules.Symm premises clause each right = symmetric_true premises clause each right
  equating_true rules.Trans premises clause each right = chained_true premises clause each right
  equating_true rules.Cong premises clause each right = joined_true premises clause each right
  equating_true rules.IteThen premises clause each right = then_true premises clause right
  equating_true rules.IteElse premises clause each right = else_true premises clause right
