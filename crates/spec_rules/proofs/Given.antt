-- Whether a rule with a scheme takes a step is a test that computes.
use Rattle.std.proofs.Common.{◌≡◌, suc, Bool, true, false, ◌&&◌, ◌||◌, List, [], ◌∷◌, map, cond, Some, All, Contains, refl, sym, ap, ap₂, ◌∙◌, subst, arith}
use Rattle.std.specs.Prelude.{filter}
use Rattle.std.specs.List.{list_any}
use Rattle.std.proofs.lemmas.Bool.{false≢true, and_parts}
use Rattle.std.proofs.lemmas.List.Elements.{All-head, All-cons, All-nil, All-map, All-contains, filter_passes}
use Rattle.std.proofs.lemmas.List.Folds.{Any-from_list_any, list_any-from_Any}
use Rattle.spec_text.specs.Bytes.{Name}
use Rattle.spec_text.specs.Trees.{Trees}
use Rattle.spec_sorts.specs.Terms.{Not, Term, app, nil, cons, same_term}
use Rattle.spec_sorts.specs.Subsets.{arguments_of}
use Rattle.spec_sorts.specs.Literals.{Clause}
use Rattle.spec_sorts.proofs.SameTerms.{one_term, term_itself}
use Rattle.spec_proofs.specs.declared.Rule.{Rule}
use Rattle.spec_proofs.specs.declared.Rule.TheVariants as rules
use Rattle.spec_proofs.specs.RuleNames.{every_rule}
use Rattle.spec_rules.specs.Schemes.{Scheme, signed_term, rests_of, is_formula_of, clauses_by, Kind, states, turns, kind_of}
use Rattle.spec_proofs.specs.RuleNames.{rule_named}
use Rattle.spec_rules.specs.Rules.{flipped, IsGiven, IsBy, IsRight}
use Rattle.spec_rules.specs.Examples.{has_scheme, IsOnlyBy, IsByNone}

-- the clauses have the same terms, in their order
abbrev pub same_clause : Clause → Clause → Bool
same_clause [] [] = true
same_clause (t ∷ ts) (u ∷ us) = same_term t u && same_clause ts us
same_clause _ _ = false

one_clause : (c d : Clause) → same_clause c d ≡ true → c ≡ d
one_clause [] [] e = refl
one_clause (t ∷ ts) (u ∷ us) e = let h = and_parts (same_term t u) (same_clause ts us) e in ap₂ (λ (v : Term) (vs : List Term). v ∷ vs) (one_term t u h.0) (one_clause ts us h.1)
one_clause _ _ e = absurd (false≢true e)

clause_itself : (c : Clause) → same_clause c c ≡ true
clause_itself [] = refl
clause_itself (t ∷ ts) = ap₂ (λ (a b : Bool). a && b) (term_itself t) (clause_itself ts)

-- the term that comes first as it is, or negated; none where that is no negation
abbrev pub fronts : Bool → Clause → List Term
fronts true (t ∷ ls) = t ∷ []
fronts false (app Not (cons t nil) ∷ ls) = t ∷ []
fronts _ _ = []

-- the first term gives the clause by the scheme
abbrev pub given_by : Scheme → Clause → Bool
given_by s c = list_any (λ t. list_any (same_clause c) (clauses_by s t)) (fronts s.positive c)

-- a term comes before the clauses that it gives
front_alone : (p : Bool) (t : Term) (ls : Clause) → fronts p (signed_term p t ∷ ls) ≡ t ∷ []
front_alone true t ls = refl
front_alone false t ls = refl

front_of_each : (s : Scheme) (t : Term) → All (λ c. fronts s.positive c ≡ t ∷ []) (clauses_by s t)
front_of_each s t = go (is_formula_of s.head t)
  where
    go : (b : Bool) → All (λ c. fronts s.positive c ≡ t ∷ []) (cond b (map (λ ls. signed_term s.positive t ∷ ls) (rests_of s.rest (arguments_of t))) [])
    go true = All-map (λ c. fronts s.positive c ≡ t ∷ []) (λ ls. signed_term s.positive t ∷ ls) (rests_of s.rest (arguments_of t)) (λ k d h. front_alone s.positive t _)
    go false = All-nil (λ c. fronts s.positive c ≡ t ∷ [])

-- the test tells whether some term gives the clause
is_given : (s : Scheme) (c : Clause) → given_by s c ≡ true → IsGiven s c
is_given s c e =
    let by = Any-from_list_any (λ t. list_any (same_clause c) (clauses_by s t)) (fronts s.positive c) e in
    let here = Any-from_list_any (same_clause c) (clauses_by s by.1) by.4 in
    (by.1, subst (λ d. Contains (clauses_by s by.1) d) (sym (one_clause c here.1 here.4)) (here.0, here.2, here.3))

test_given : (s : Scheme) (c : Clause) → IsGiven s c → given_by s c ≡ true
test_given s c (t, here) =
    let front : fronts s.positive c ≡ t ∷ [] = All-contains (λ d. fronts s.positive d ≡ t ∷ []) (clauses_by s t) c (front_of_each s t) here in
    let there : list_any (same_clause c) (clauses_by s t) ≡ true = list_any-from_Any (same_clause c) (clauses_by s t) (here.0, c, here.1, here.2, clause_itself c) in
    subst (λ ts. list_any (λ t. list_any (same_clause c) (clauses_by s t)) ts ≡ true) (sym front) (ap (λ b. b || false) there)

-- a rule of this kind takes the step; of a kind without a scheme it is not asked
abbrev pub taken_by : Kind → List Clause → Clause → Bool
taken_by (states s) [] c = given_by s c
taken_by (turns s) ((u ∷ []) ∷ []) c = given_by s (flipped u ∷ c)
taken_by _ _ _ = false

is_by : (k : Kind) (ps : List Clause) (arguments : Trees) (c : Clause) → taken_by k ps c ≡ true → IsBy k ps arguments c
is_by (states s) [] arguments c e = is_given s c e
is_by (turns s) ((u ∷ []) ∷ []) arguments c e = is_given s (flipped u ∷ c) e
is_by _ _ _ _ e = absurd (false≢true e)

test_by : (k : Kind) (ps : List Clause) (arguments : Trees) (c : Clause) → has_scheme k ≡ true → IsBy k ps arguments c → taken_by k ps c ≡ true
test_by (states s) [] arguments c e h = test_given s c h
test_by (states s) _ arguments c e h = absurd h
test_by (turns s) ((u ∷ []) ∷ []) arguments c e h = test_given s (flipped u ∷ c) h
test_by (turns s) _ arguments c e h = absurd h
test_by _ _ _ _ e h = absurd (false≢true e)

-- those with a scheme that take the step
abbrev pub takers : List Clause → Clause → List Rule
takers ps c = filter (λ rule. taken_by (kind_of rule) ps c) every_rule

-- what passes a test is left by it
sieved : {A : Type 0} (test : A → Bool) (xs : List A) → All (λ x. test x ≡ true → Contains (filter test xs) x) xs
sieved test [] = All-nil (λ x. test x ≡ true → Contains (filter test []) x)
sieved {A} test (x ∷ xs) = go (test x) refl (sieved test xs)
  where
    go : (b : Bool) → test x ≡ b → All (λ z. test z ≡ true → Contains (filter test xs) z) xs → All (λ z. test z ≡ true → Contains (cond b (x ∷ filter test xs) (filter test xs)) z) (x ∷ xs)
    go true e rec = All-cons (λ z. test z ≡ true → Contains (x ∷ filter test xs) z) x xs (λ _. (0, omega arith, refl)) (λ k d h t. let w = rec k d h t in (suc w.0, omega (arith, w.1), w.2))
    go false e rec = All-cons (λ z. test z ≡ true → Contains (filter test xs) z) x xs (λ t. absurd (false≢true (sym e ∙ t))) rec

-- each rule is one of all
there : (rule : Rule) → Contains every_rule rule
there rules.Or = (0, omega arith, refl)
there rules.Contraction = (1, omega arith, refl)
there rules.Reordering = (2, omega arith, refl)
there rules.Weakening = (3, omega arith, refl)
there rules.Resolution = (4, omega arith, refl)
there rules.ThResolution = (5, omega arith, refl)
there rules.True = (6, omega arith, refl)
there rules.False = (7, omega arith, refl)
there rules.AndPos = (8, omega arith, refl)
there rules.AndNeg = (9, omega arith, refl)
there rules.OrPos = (10, omega arith, refl)
there rules.OrNeg = (11, omega arith, refl)
there rules.ImpliesPos = (12, omega arith, refl)
there rules.ImpliesNeg1 = (13, omega arith, refl)
there rules.ImpliesNeg2 = (14, omega arith, refl)
there rules.EquivPos1 = (15, omega arith, refl)
there rules.EquivPos2 = (16, omega arith, refl)
there rules.EquivNeg1 = (17, omega arith, refl)
there rules.EquivNeg2 = (18, omega arith, refl)
there rules.XorPos1 = (19, omega arith, refl)
there rules.XorPos2 = (20, omega arith, refl)
there rules.XorNeg1 = (21, omega arith, refl)
there rules.XorNeg2 = (22, omega arith, refl)
there rules.ItePos1 = (23, omega arith, refl)
there rules.ItePos2 = (24, omega arith, refl)
there rules.IteNeg1 = (25, omega arith, refl)
there rules.IteNeg2 = (26, omega arith, refl)
there rules.NotNot = (27, omega arith, refl)
there rules.And = (28, omega arith, refl)
there rules.NotAnd = (29, omega arith, refl)
there rules.NotOr = (30, omega arith, refl)
there rules.Implies = (31, omega arith, refl)
there rules.NotImplies1 = (32, omega arith, refl)
there rules.NotImplies2 = (33, omega arith, refl)
there rules.Equiv1 = (34, omega arith, refl)
there rules.Equiv2 = (35, omega arith, refl)
there rules.NotEquiv1 = (36, omega arith, refl)
there rules.NotEquiv2 = (37, omega arith, refl)
there rules.Xor1 = (38, omega arith, refl)
there rules.Xor2 = (39, omega arith, refl)
there rules.NotXor1 = (40, omega arith, refl)
there rules.NotXor2 = (41, omega arith, refl)
there rules.Ite1 = (42, omega arith, refl)
there rules.Ite2 = (43, omega arith, refl)
there rules.NotIte1 = (44, omega arith, refl)
there rules.NotIte2 = (45, omega arith, refl)
there rules.EqReflexive = (46, omega arith, refl)
there rules.EqTransitive = (47, omega arith, refl)
there rules.EqCongruent = (48, omega arith, refl)
there rules.EqCongruentPred = (49, omega arith, refl)
there rules.Refl = (50, omega arith, refl)
there rules.Symm = (51, omega arith, refl)
there rules.Trans = (52, omega arith, refl)
there rules.Cong = (53, omega arith, refl)
there rules.DistinctElim = (54, omega arith, refl)
there rules.IteThen = (55, omega arith, refl)
there rules.IteElse = (56, omega arith, refl)
there rules.LaGeneric = (57, omega arith, refl)
there rules.LaDisequality = (58, omega arith, refl)
there rules.LaTotality = (59, omega arith, refl)

-- a rule with a scheme that takes the step is among these
taker : (ps : List Clause) (arguments : Trees) (c : Clause) (rule : Rule) → has_scheme (kind_of rule) ≡ true → IsRight rule ps arguments c → Contains (takers ps c) rule
taker ps arguments c rule e h =
    let test : Rule → Bool = λ other. taken_by (kind_of other) ps c in
    All-contains (λ other. test other ≡ true → Contains (takers ps c) other) every_rule rule (sieved test every_rule) (there rule) (test_by (kind_of rule) ps arguments c e h)

one_of_one : {A : Type 0} (xs : List A) (x y : A) → xs ≡ y ∷ [] → Contains xs x → x ≡ y
one_of_one xs x y e h = All-contains (λ z. z ≡ y) xs x (subst (All (λ z. z ≡ y)) (sym e) (All-cons (λ z. z ≡ y) y [] refl (All-nil (λ z. z ≡ y)))) h

none_of_none : {A : Type 0} (xs : List A) (x : A) → xs ≡ [] → Contains xs x → ⊥
none_of_none xs x e h = All-contains (λ z. ⊥) xs x (subst (All (λ z. ⊥)) (sym e) (All-nil (λ z. ⊥))) h

-- verdicts on a step by the rules that the test leaves
pub only : {name : Name} {ps : List Clause} {c : Clause} (rule : Rule) → rule_named name ≡ Some rule → takers ps c ≡ rule ∷ [] → IsOnlyBy name ps c
only {name} {ps} {c} rule named e = record {
  rule = rule;
  named = named;
  right = λ arguments. is_by (kind_of rule) ps arguments c (All-head (λ other. taken_by (kind_of other) ps c ≡ true) rule [] (subst (All (λ other. taken_by (kind_of other) ps c ≡ true)) e (filter_passes (λ other. taken_by (kind_of other) ps c) every_rule)));
  alone = λ other arguments k h. one_of_one (takers ps c) other rule e (taker ps arguments c other k h);
}

pub by_none : (ps : List Clause) (c : Clause) → takers ps c ≡ [] → IsByNone ps c
by_none ps c e = λ rule arguments k h. none_of_none (takers ps c) rule e (taker ps arguments c rule k h)
