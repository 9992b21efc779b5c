-- Each clause that a term gives by a scheme of the table is true, under every interpretation.
use Rattle.std.proofs.Common.{◌≡◌, Bool, true, false, not, ◌&&◌, ◌||◌, List, [], ◌∷◌, map, cond, All, refl, sym, ap, subst}
use Rattle.std.specs.Prelude.{Contains}
use Rattle.std.proofs.lemmas.Bool.{false≢true, and_parts}
use Rattle.std.proofs.lemmas.List.Elements.{All-head, All-tail, All-cons, All-nil, All-map, All-contains}
use Rattle.std.proofs.Math.Bool.{or-true}
use Rattle.spec_sorts.specs.Terms.{Sort, Truth, Head, True, False, Not, And, Or, Xor, Implies, Equal, Ite, same_head, Term, Terms, app, nil, cons, list_of, negated, sort_of, head_takes, all_same}
use Rattle.spec_sorts.specs.Values.{Value, truth, number, element, same_value, is_true, all_true, any_true, different, Interpretation}
use Rattle.spec_sorts.specs.Literals.{Clause}
use Rattle.spec_sorts.specs.TermValues.{value_at, values_at}
use Rattle.spec_proofs.specs.declared.Rule.{Rule}
use Rattle.spec_proofs.specs.declared.Rule.TheVariants as rules
use Rattle.spec_rules.specs.Clauses.{term_true, clause_true}
use Rattle.spec_rules.specs.Schemes.{Scheme, signed_term, rests_of, is_formula_of, clauses_by, Kind, states, turns, kind_of, true_scheme, false_scheme, and_pos, and_neg, or_pos, or_neg, implies_pos, implies_neg1, implies_neg2, equiv_pos1, equiv_pos2, equiv_neg1, equiv_neg2, xor_pos1, xor_pos2, xor_neg1, xor_neg2, ite_pos1, ite_pos2, ite_neg1, ite_neg2, not_not}

-- a test of one truth, and one of two, that passes in each case
by_one : (f : Bool → Bool) → f true ≡ true → f false ≡ true → (x : Bool) → f x ≡ true
by_one f t u true = t
by_one f t u false = u

by_two : (f : Bool → Bool → Bool) → f true true ≡ true → f true false ≡ true → f false true ≡ true → f false false ≡ true → (x y : Bool) → f x y ≡ true
by_two f t u v w true true = t
by_two f t u v w true false = u
by_two f t u v w false true = v
by_two f t u v w false false = w

-- one that is true, or else the other is
or_else : (b c : Bool) → (b ≡ true → c ≡ true) → not (b && true) || c ≡ true
or_else true c h = h refl
or_else false c h = refl

-- values that are the same are both true, or neither is
alike : (v w : Value) → same_value v w ≡ true → is_true v ≡ is_true w
alike (truth true) (truth b) e = sym e
alike (truth false) (truth true) e = e
alike (truth false) (truth false) e = refl
alike (number p) (number q) e = refl
alike (element s k) (element t m) e = refl
alike _ _ e = absurd (false≢true e)

-- values that are both true are the same
true_alike : (v w : Value) → same_value v w || (not (is_true v && true) || (not (is_true w && true) || false)) ≡ true
true_alike (truth true) (truth true) = refl
true_alike (truth true) (truth false) = refl
true_alike (truth true) (number q) = refl
true_alike (truth true) (element s k) = refl
true_alike (truth false) w = or-true (same_value (truth false) w)
true_alike (number p) w = or-true (same_value (number p) w)
true_alike (element s k) w = or-true (same_value (element s k) w)

-- truth values neither of which is true are the same
false_alike : (v w : Value) (x y : Bool) → v ≡ truth x → w ≡ truth y → same_value v w || (is_true v || (is_true w || false)) ≡ true
false_alike v w x y e f = subst (λ u. same_value u w || (is_true u || (is_true w || false)) ≡ true) (sym e) (subst (λ u. same_value (truth x) u || (x || (is_true u || false)) ≡ true) (sym f) (by_two (λ x y. same_value (truth x) (truth y) || (x || (y || false))) refl refl refl refl x y))

-- what is chosen is the third value where the first is not true, and else the second
chosen_pos1 : (c : Bool) (v w : Value) → not (is_true (cond c v w) && true) || (c || (is_true w || false)) ≡ true
chosen_pos1 true v w = or-true (not (is_true v && true))
chosen_pos1 false v w = by_one (λ y. not (y && true) || (y || false)) refl refl (is_true w)

chosen_pos2 : (c : Bool) (v w : Value) → not (is_true (cond c v w) && true) || (not (c && true) || (is_true v || false)) ≡ true
chosen_pos2 true v w = by_one (λ x. not (x && true) || (x || false)) refl refl (is_true v)
chosen_pos2 false v w = or-true (not (is_true w && true))

chosen_neg1 : (c : Bool) (v w : Value) → is_true (cond c v w) || (c || (not (is_true w && true) || false)) ≡ true
chosen_neg1 true v w = or-true (is_true v)
chosen_neg1 false v w = by_one (λ y. y || (not (y && true) || false)) refl refl (is_true w)

chosen_neg2 : (c : Bool) (v w : Value) → is_true (cond c v w) || (not (c && true) || (not (is_true v && true) || false)) ≡ true
chosen_neg2 true v w = by_one (λ x. x || (not (x && true) || false)) refl refl (is_true v)
chosen_neg2 false v w = or-true (is_true w)

-- two sorts, and three
abbrev pub AreTwo : List Sort → Type 0
AreTwo (s ∷ t ∷ []) = Unit {0}
AreTwo _ = ⊥

abbrev pub AreThree : List Sort → Type 0
AreThree (s ∷ t ∷ u ∷ []) = Unit {0}
AreThree _ = ⊥

-- so many sorts as a head of two or three arguments takes; of the others it is not asked
abbrev pub IsCount : Head → List Sort → Type 0
IsCount Xor ss = AreTwo ss
IsCount Implies ss = AreTwo ss
IsCount Equal ss = AreTwo ss
IsCount Ite ss = AreThree ss
IsCount _ ss = Unit {0}

counted : (h : Head) (ss : List Sort) → head_takes [] h ss ≡ true → IsCount h ss
counted Xor (Truth ∷ Truth ∷ []) e = tt
counted Xor ss e = absurd (false≢true e)
counted Implies (Truth ∷ Truth ∷ []) e = tt
counted Implies ss e = absurd (false≢true e)
counted Equal (s ∷ t ∷ []) e = tt
counted Equal ss e = absurd (false≢true e)
counted Ite (Truth ∷ s ∷ t ∷ []) e = tt
counted Ite ss e = absurd (false≢true e)
counted h ss e = tt

-- a head of theory Core
abbrev pub IsCore : Head → Type 0
IsCore True = Unit {0}
IsCore False = Unit {0}
IsCore Not = Unit {0}
IsCore And = Unit {0}
IsCore Or = Unit {0}
IsCore Xor = Unit {0}
IsCore Implies = Unit {0}
IsCore Equal = Unit {0}
IsCore Ite = Unit {0}
IsCore h = ⊥

-- heads that are one
one_head : (h g : Head) → IsCore h → same_head h g ≡ true → h ≡ g
one_head True True core e = refl
one_head False False core e = refl
one_head Not Not core e = refl
one_head And And core e = refl
one_head Or Or core e = refl
one_head Xor Xor core e = refl
one_head Implies Implies core e = refl
one_head Equal Equal core e = refl
one_head Ite Ite core e = refl
one_head True g core e = absurd (false≢true e)
one_head False g core e = absurd (false≢true e)
one_head Not g core e = absurd (false≢true e)
one_head And g core e = absurd (false≢true e)
one_head Or g core e = absurd (false≢true e)
one_head Xor g core e = absurd (false≢true e)
one_head Implies g core e = absurd (false≢true e)
one_head Equal g core e = absurd (false≢true e)
one_head Ite g core e = absurd (false≢true e)
one_head h g core e = absurd core

-- the term's value is a truth value
abbrev pub HasTruth : Interpretation → Term → Type 0
HasTruth i t = (b : Bool) × (value_at i [] t ≡ truth b)

module _ (i : Interpretation) where
  -- a clause that is true
  abbrev pub IsTrue : Clause → Type 0
  IsTrue c = clause_true i c ≡ true

  -- a clause that is true where what comes after its first term has truth values
  abbrev pub Holds : Clause → Type 0
  Holds [] = ⊥
  Holds (t ∷ ls) = All (HasTruth i) ls → IsTrue (t ∷ ls)

  -- each clause that some arguments give by a scheme is true
  abbrev pub IsSoundAt : Scheme → Terms → Type 0
  IsSoundAt s ts = All Holds (map (λ ls. signed_term s.positive (app s.head ts) ∷ ls) (rests_of s.rest (list_of ts)))

  -- and so for all arguments, as many as the head takes
  pub record IsSound (s : Scheme) : Type 0 where
    pub core : IsCore s.head
    pub each : (ts : Terms) → IsCount s.head (map sort_of (list_of ts)) → IsSoundAt s ts

  -- one clause that holds
  only : (c : Clause) → Holds c → All Holds (c ∷ [])
  only c h = All-cons Holds c [] h (All-nil Holds)

  -- of two terms, or of three, what holds of terms so many
  two : (P : Terms → Type 0) → ((a b : Term) → P (cons a (cons b nil))) → (ts : Terms) → AreTwo (map sort_of (list_of ts)) → P ts
  two P f (cons a (cons b nil)) n = f a b
  two P f _ n = absurd n

  three : (P : Terms → Type 0) → ((a b c : Term) → P (cons a (cons b (cons c nil)))) → (ts : Terms) → AreThree (map sort_of (list_of ts)) → P ts
  three P f (cons a (cons b (cons c nil))) n = f a b c
  three P f _ n = absurd n

  -- each argument alone, after the first term
  one_each : (u : Term) (f : Term → Term) (ts : List Term) → All (λ t. Holds (u ∷ f t ∷ [])) ts → All Holds (map (λ ls. u ∷ ls) (map (λ t. f t ∷ []) ts))
  one_each u f ts h = All-map Holds (λ ls. u ∷ ls) (map (λ t. f t ∷ []) ts) (All-map (λ ls. Holds (u ∷ ls)) (λ t. f t ∷ []) ts h)

  true_sound : IsSound true_scheme
  unfolding value_at
  true_sound = record { core = tt; each = λ ts n. only _ (λ _. refl) }

  false_sound : IsSound false_scheme
  unfolding value_at values_at
  false_sound = record { core = tt; each = λ ts n. only _ (λ _. refl) }

  -- of a conjunction that is true each argument is
  each_true : (ts : Terms) → all_true (values_at i [] ts) ≡ true → All (λ t. term_true i t ≡ true) (list_of ts)
  unfolding values_at
  each_true nil e = All-nil (λ t. term_true i t ≡ true)
  each_true (cons t ts) e =
      let parts = and_parts (term_true i t) (all_true (values_at i [] ts)) e in
      All-cons (λ t. term_true i t ≡ true) t (list_of ts) parts.0 (each_true ts parts.1)

  and_pos_sound : IsSound and_pos
  unfolding value_at values_at
  and_pos_sound = record { core = tt; each = λ ts n. one_each (negated (app And ts)) (signed_term true) (list_of ts) (λ k d h _. or_else (all_true (values_at i [] ts)) _ (λ e. ap (λ b. b || false) (each_true ts e k d h))) }

  -- a conjunction is true, or one of its arguments is not
  and_or_not : (ts : Terms) → all_true (values_at i [] ts) || clause_true i (map (signed_term false) (list_of ts)) ≡ true
  unfolding value_at values_at
  and_or_not nil = refl
  and_or_not (cons t ts) = go (term_true i t) (all_true (values_at i [] ts)) (clause_true i (map (signed_term false) (list_of ts))) (and_or_not ts)
    where
      go : (x a c : Bool) → a || c ≡ true → (x && a) || (not (x && true) || c) ≡ true
      go true a c h = h
      go false a c h = refl

  and_neg_sound : IsSound and_neg
  unfolding value_at values_at
  and_neg_sound = record { core = tt; each = λ ts n. only _ (λ _. and_or_not ts) }

  -- a disjunction is not true, or one of its arguments is
  not_or_one : (ts : Terms) → not (any_true (values_at i [] ts) && true) || clause_true i (map (signed_term true) (list_of ts)) ≡ true
  unfolding value_at values_at
  not_or_one nil = refl
  not_or_one (cons t ts) = go (term_true i t) (any_true (values_at i [] ts)) (clause_true i (map (signed_term true) (list_of ts))) (not_or_one ts)
    where
      go : (x a c : Bool) → not (a && true) || c ≡ true → not ((x || a) && true) || (x || c) ≡ true
      go true a c h = refl
      go false a c h = h

  or_pos_sound : IsSound or_pos
  unfolding value_at values_at
  or_pos_sound = record { core = tt; each = λ ts n. only _ (λ _. not_or_one ts) }

  -- a disjunction is true, or this argument of it is not
  abbrev OrNot : Terms → Term → Type 0
  OrNot ts t = any_true (values_at i [] ts) || (not (term_true i t && true) || false) ≡ true

  or_unless : (ts : Terms) → All (OrNot ts) (list_of ts)
  unfolding values_at
  or_unless nil = All-nil (OrNot nil)
  or_unless (cons t ts) = All-cons (OrNot (cons t ts)) t (list_of ts) (first (term_true i t) (any_true (values_at i [] ts))) (λ k d h. later (term_true i t) (any_true (values_at i [] ts)) _ (or_unless ts k d h))
    where
      first : (x a : Bool) → (x || a) || (not (x && true) || false) ≡ true
      first true a = refl
      first false a = or-true a

      later : (x a c : Bool) → a || c ≡ true → (x || a) || c ≡ true
      later true a c h = refl
      later false a c h = h

  or_neg_sound : IsSound or_neg
  unfolding value_at values_at
  or_neg_sound = record { core = tt; each = λ ts n. one_each (app Or ts) (signed_term false) (list_of ts) (λ k d h _. or_unless ts k d h) }

  implies_pos_sound : IsSound implies_pos
  unfolding value_at values_at
  implies_pos_sound = record { core = tt; each = two (IsSoundAt implies_pos) λ a b. only _ (λ _. by_two (λ x y. not ((not x || y) && true) || (not (x && true) || (y || false))) refl refl refl refl (term_true i a) (term_true i b)) }

  implies_neg1_sound : IsSound implies_neg1
  unfolding value_at values_at
  implies_neg1_sound = record { core = tt; each = two (IsSoundAt implies_neg1) λ a b. only _ (λ _. by_two (λ x y. (not x || y) || (x || false)) refl refl refl refl (term_true i a) (term_true i b)) }

  implies_neg2_sound : IsSound implies_neg2
  unfolding value_at values_at
  implies_neg2_sound = record { core = tt; each = two (IsSoundAt implies_neg2) λ a b. only _ (λ _. by_two (λ x y. (not x || y) || (not (y && true) || false)) refl refl refl refl (term_true i a) (term_true i b)) }

  xor_pos1_sound : IsSound xor_pos1
  unfolding value_at values_at
  xor_pos1_sound = record { core = tt; each = two (IsSoundAt xor_pos1) λ a b. only _ (λ _. by_two (λ x y. not (different x y && true) || (x || (y || false))) refl refl refl refl (term_true i a) (term_true i b)) }

  xor_pos2_sound : IsSound xor_pos2
  unfolding value_at values_at
  xor_pos2_sound = record { core = tt; each = two (IsSoundAt xor_pos2) λ a b. only _ (λ _. by_two (λ x y. not (different x y && true) || (not (x && true) || (not (y && true) || false))) refl refl refl refl (term_true i a) (term_true i b)) }

  xor_neg1_sound : IsSound xor_neg1
  unfolding value_at values_at
  xor_neg1_sound = record { core = tt; each = two (IsSoundAt xor_neg1) λ a b. only _ (λ _. by_two (λ x y. different x y || (x || (not (y && true) || false))) refl refl refl refl (term_true i a) (term_true i b)) }

  xor_neg2_sound : IsSound xor_neg2
  unfolding value_at values_at
  xor_neg2_sound = record { core = tt; each = two (IsSoundAt xor_neg2) λ a b. only _ (λ _. by_two (λ x y. different x y || (not (x && true) || (y || false))) refl refl refl refl (term_true i a) (term_true i b)) }

  equiv_pos1_sound : IsSound equiv_pos1
  unfolding value_at values_at
  equiv_pos1_sound = record { core = tt; each = two (IsSoundAt equiv_pos1) λ a b. only _ (λ _. or_else (same_value (value_at i [] a) (value_at i [] b)) _ (λ e. subst (λ y. term_true i a || (not (y && true) || false) ≡ true) (alike (value_at i [] a) (value_at i [] b) e) (by_one (λ x. x || (not (x && true) || false)) refl refl (term_true i a)))) }

  equiv_pos2_sound : IsSound equiv_pos2
  unfolding value_at values_at
  equiv_pos2_sound = record { core = tt; each = two (IsSoundAt equiv_pos2) λ a b. only _ (λ _. or_else (same_value (value_at i [] a) (value_at i [] b)) _ (λ e. subst (λ y. not (term_true i a && true) || (y || false) ≡ true) (alike (value_at i [] a) (value_at i [] b) e) (by_one (λ x. not (x && true) || (x || false)) refl refl (term_true i a)))) }

  equiv_neg1_sound : IsSound equiv_neg1
  unfolding value_at values_at
  equiv_neg1_sound = record { core = tt; each = two (IsSoundAt equiv_neg1) λ a b. only _ (λ _. true_alike (value_at i [] a) (value_at i [] b)) }

  -- of this one clause it is asked what truth values its terms have
  equiv_neg2_sound : IsSound equiv_neg2
  unfolding value_at values_at
  equiv_neg2_sound = record {
    core = tt;
    each = two (IsSoundAt equiv_neg2) λ a b. only _ λ given.
        let x = All-head (HasTruth i) a (b ∷ []) given in
        let y = All-head (HasTruth i) b [] (All-tail (HasTruth i) a (b ∷ []) given) in
        false_alike (value_at i [] a) (value_at i [] b) x.0 y.0 x.1 y.1;
  }

  ite_pos1_sound : IsSound ite_pos1
  unfolding value_at values_at
  ite_pos1_sound = record { core = tt; each = three (IsSoundAt ite_pos1) λ a b c. only _ (λ _. chosen_pos1 (term_true i a) (value_at i [] b) (value_at i [] c)) }

  ite_pos2_sound : IsSound ite_pos2
  unfolding value_at values_at
  ite_pos2_sound = record { core = tt; each = three (IsSoundAt ite_pos2) λ a b c. only _ (λ _. chosen_pos2 (term_true i a) (value_at i [] b) (value_at i [] c)) }

  ite_neg1_sound : IsSound ite_neg1
  unfolding value_at values_at
  ite_neg1_sound = record { core = tt; each = three (IsSoundAt ite_neg1) λ a b c. only _ (λ _. chosen_neg1 (term_true i a) (value_at i [] b) (value_at i [] c)) }

  ite_neg2_sound : IsSound ite_neg2
  unfolding value_at values_at
  ite_neg2_sound = record { core = tt; each = three (IsSoundAt ite_neg2) λ a b c. only _ (λ _. chosen_neg2 (term_true i a) (value_at i [] b) (value_at i [] c)) }

  -- what two negations negate, after the negation of these
  innermost_sound : (ts : Terms) → IsSoundAt not_not ts
  unfolding value_at values_at
  innermost_sound (cons (app Not (cons t nil)) nil) = only _ (λ _. by_one (λ x. not (not (not (x && true) && true) && true) || (x || false)) refl refl (term_true i t))
  innermost_sound _ = All-nil Holds

  not_not_sound : IsSound not_not
  not_not_sound = record { core = tt; each = λ ts n. innermost_sound ts }

  -- each clause that a term gives by a scheme that is sound
  clauses_hold : (s : Scheme) → IsSound s → (t : Term) → All Holds (clauses_by s t)
  clauses_hold s sound (app g ts) = go (is_formula_of s.head (app g ts)) λ e.
      let sorts = map sort_of (list_of ts) in
      let parts = and_parts (same_head s.head g) (head_takes [] g sorts) (and_parts (same_head s.head g && head_takes [] g sorts) (all_same Truth sorts) e).0 in
      let Of : Head → Type 0 = λ h. head_takes [] h sorts ≡ true → All Holds (map (λ ls. signed_term s.positive (app h ts) ∷ ls) (rests_of s.rest (list_of ts))) in
      subst Of (one_head s.head g sound.core parts.0) (λ k. sound.each ts (counted s.head sorts k)) parts.1
    where
      go : (b : Bool) → (b ≡ true → All Holds (map (λ ls. signed_term s.positive (app g ts) ∷ ls) (rests_of s.rest (list_of ts)))) → All Holds (cond b (map (λ ls. signed_term s.positive (app g ts) ∷ ls) (rests_of s.rest (list_of ts))) [])
      go true h = h refl
      go false h = All-nil Holds

  -- a clause of the table is true, under the scheme of a rule
  abbrev pub IsSoundKind : Kind → Type 0
  IsSoundKind (states s) = IsSound s
  IsSoundKind (turns s) = IsSound s
  IsSoundKind _ = Unit {0}

  -- each rule's scheme is sound
  pub kind_sound : (rule : Rule) → IsSoundKind (kind_of rule)
  kind_sound rules.True = true_sound
  kind_sound rules.False = false_sound
  kind_sound rules.AndPos = and_pos_sound
  kind_sound rules.AndNeg = and_neg_sound
  kind_sound rules.OrPos = or_pos_sound
  kind_sound rules.OrNeg = or_neg_sound
  kind_sound rules.ImpliesPos = implies_pos_sound
  kind_sound rules.ImpliesNeg1 = implies_neg1_sound
  kind_sound rules.ImpliesNeg2 = implies_neg2_sound
  kind_sound rules.EquivPos1 = equiv_pos1_sound
  kind_sound rules.EquivPos2 = equiv_pos2_sound
  kind_sound rules.EquivNeg1 = equiv_neg1_sound
  kind_sound rules.EquivNeg2 = equiv_neg2_sound
  kind_sound rules.XorPos1 = xor_pos1_sound
  kind_sound rules.XorPos2 = xor_pos2_sound
  kind_sound rules.XorNeg1 = xor_neg1_sound
  kind_sound rules.XorNeg2 = xor_neg2_sound
  kind_sound rules.ItePos1 = ite_pos1_sound
  kind_sound rules.ItePos2 = ite_pos2_sound
  kind_sound rules.IteNeg1 = ite_neg1_sound
  kind_sound rules.IteNeg2 = ite_neg2_sound
  kind_sound rules.NotNot = not_not_sound
  kind_sound rules.And = and_pos_sound
  kind_sound rules.NotAnd = and_neg_sound
  kind_sound rules.NotOr = or_neg_sound
  kind_sound rules.Implies = implies_pos_sound
  kind_sound rules.NotImplies1 = implies_neg1_sound
  kind_sound rules.NotImplies2 = implies_neg2_sound
  kind_sound rules.Equiv1 = equiv_pos2_sound
  kind_sound rules.Equiv2 = equiv_pos1_sound
  kind_sound rules.NotEquiv1 = equiv_neg2_sound
  kind_sound rules.NotEquiv2 = equiv_neg1_sound
  kind_sound rules.Xor1 = xor_pos1_sound
  kind_sound rules.Xor2 = xor_pos2_sound
  kind_sound rules.NotXor1 = xor_neg1_sound
  kind_sound rules.NotXor2 = xor_neg2_sound
  kind_sound rules.Ite1 = ite_pos1_sound
  kind_sound rules.Ite2 = ite_pos2_sound
  kind_sound rules.NotIte1 = ite_neg1_sound
  kind_sound rules.NotIte2 = ite_neg2_sound
  kind_sound _ = tt

  -- a clause that some term gives is true, where what comes after its first term has truth values
  pub given_true : (s : Scheme) → IsSound s → (t u : Term) (clause : Clause) → Contains (clauses_by s t) (u ∷ clause) → All (HasTruth i) clause → IsTrue (u ∷ clause)
  given_true s sound t u clause here truths = All-contains Holds (clauses_by s t) (u ∷ clause) (clauses_hold s sound t) here truths

  -- no term gives an empty clause
  pub none_given : {A : Type 0} (s : Scheme) → IsSound s → (t : Term) → Contains (clauses_by s t) [] → A
  none_given s sound t here = absurd (All-contains Holds (clauses_by s t) [] (clauses_hold s sound t) here)
