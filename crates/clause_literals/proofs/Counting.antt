-- How many literals of a clause are not seen to be false.
use Rattle.std.proofs.Common.{◌≡◌, ◌≢◌, ℕ, ◌+◌, ◌≤◌, ◌==◌, zero, suc, Bool, true, false, cond, List, [], ◌∷◌, ◌++◌, length, Contains, ◌⊎◌, inl, inr, sym, ap, ◌∙◌, subst, refl, arith}
use Rattle.std.proofs.lemmas.Bool.{false≢true, eq-eqb}
use Rattle.std.proofs.lemmas.List.Elements.{Contains-push_cases}
use Rattle.spec_text.proofs.Members.{cases, later}
use Rattle.term_core.specs.declared.ids.Lit.{Lit}
use Rattle.clause_literals.specs.Literals.{lit_complement, has, HasNoTwice}
use Rattle.clause_literals.specs.Statuses.{IsUnresolved}
use Rattle.clause_literals.specs.Propagation.{unseen, times}
use Rattle.clause_literals.proofs.LiteralLists.{Contains-from_has, has-from_Contains, negation_twice}

-- the first of a list
pub Contains-first : {X : Type 0} (xs : List X) (x y : X) → x ≡ y → Contains (x ∷ xs) y
Contains-first xs x y e = (zero, omega arith, e)

-- nothing is seen at first
pub unseen_all : (c : List Lit) → unseen [] c ≡ length c
unseen_all [] = refl
unseen_all (m ∷ ms) = ap suc (unseen_all ms)

-- what one more step does to a count, by what was seen and what is
by_tests : (a b n : ℕ) → a ≤ b + n → (s t : Bool) → ((s ≡ false) → (t ≡ true) → suc a ≤ b + n) → cond s a (suc a) ≤ cond t b (suc b) + n
by_tests a b n h true true g = h
by_tests a b n h true false g = omega (arith, h)
by_tests a b n h false true g = g refl refl
by_tests a b n h false false g = omega (arith, h)

module _ (seen : List Lit) (l : Lit) where
  -- what comes to be false is the complement
  newly : (m : Lit) → has seen (lit_complement m) ≡ false → has (seen ++ l ∷ []) (lit_complement m) ≡ true → lit_complement l ≡ m
  newly m before after = elim (Contains-push_cases seen l (lit_complement m) (Contains-from_has (seen ++ l ∷ []) (lit_complement m) after)) [
    | inl was ↦ absurd (false≢true (sym before ∙ has-from_Contains seen (lit_complement m) was))
    | inr e ↦ ap lit_complement e ∙ negation_twice m
  ]

  -- a clause without the complement of a literal loses nothing by it
  pub lose_none : (c : List Lit) → (Contains c (lit_complement l) → ⊥) → unseen seen c ≤ unseen (seen ++ l ∷ []) c + 0
  lose_none [] free = omega arith
  lose_none (m ∷ ms) free = by_tests (unseen seen ms) (unseen (seen ++ l ∷ []) ms) 0 (lose_none ms (λ i. free (later m ms (lit_complement l) i))) (has seen (lit_complement m)) (has (seen ++ l ∷ []) (lit_complement m)) (λ before after. absurd (free (Contains-first ms m (lit_complement l) (sym (newly m before after)))))

  -- and one with it once loses one
  pub lose_one : (c : List Lit) → HasNoTwice c → unseen seen c ≤ unseen (seen ++ l ∷ []) c + 1
  lose_one [] d = omega arith
  lose_one (m ∷ ms) d = by_tests (unseen seen ms) (unseen (seen ++ l ∷ []) ms) 1 (lose_one ms d.1) (has seen (lit_complement m)) (has (seen ++ l ∷ []) (lit_complement m)) (λ before after.
      let h = lose_none ms (λ i. d.0 (subst (λ (x : Lit). Contains ms x) (newly m before after) i)) in
      omega (arith, h))

-- an open literal counts
pub one_counts : (seen c : List Lit) (m : Lit) → Contains c m → (Contains seen (lit_complement m) → ⊥) → 1 ≤ unseen seen c
one_counts seen [] m i o = absurd (omega (arith, i.1))
one_counts seen (x ∷ xs) m i o = go (λ j. one_counts seen xs m j o) (has seen (lit_complement x)) refl (cases x xs m i)
  where
    go : (Contains xs m → 1 ≤ unseen seen xs) → (t : Bool) → has seen (lit_complement x) ≡ t → (x ≡ m) ⊎ Contains xs m → 1 ≤ cond t (unseen seen xs) (suc (unseen seen xs))
    go rest false e w = omega arith
    go rest true e (inl s) = absurd (o (subst (λ (y : Lit). Contains seen (lit_complement y)) s (Contains-from_has seen (lit_complement x) e)))
    go rest true e (inr j) = rest j

-- two of them count twice
pub two_count : (seen c : List Lit) (m n : Lit) → Contains c m → Contains c n → m ≢ n → (Contains seen (lit_complement m) → ⊥) → (Contains seen (lit_complement n) → ⊥) → 2 ≤ unseen seen c
two_count seen [] m n i j d o p = absurd (omega (arith, i.1))
two_count seen (x ∷ xs) m n i j d o p = go (λ k l. two_count seen xs m n k l d o p) (has seen (lit_complement x)) refl (cases x xs m i) (cases x xs n j)
  where
    go : (Contains xs m → Contains xs n → 2 ≤ unseen seen xs) → (t : Bool) → has seen (lit_complement x) ≡ t → (x ≡ m) ⊎ Contains xs m → (x ≡ n) ⊎ Contains xs n → 2 ≤ cond t (unseen seen xs) (suc (unseen seen xs))
    go rest t e (inl s) (inl u) = absurd (d (sym s ∙ u))
    go rest true e (inl s) (inr l) = absurd (o (subst (λ (y : Lit). Contains seen (lit_complement y)) s (Contains-from_has seen (lit_complement x) e)))
    go rest false e (inl s) (inr l) = let h = one_counts seen xs n l p in omega (arith, h)
    go rest true e (inr k) (inl u) = absurd (p (subst (λ (y : Lit). Contains seen (lit_complement y)) u (Contains-from_has seen (lit_complement x) e)))
    go rest false e (inr k) (inl u) = let h = one_counts seen xs m k o in omega (arith, h)
    go rest true e (inr k) (inr l) = rest k l
    go rest false e (inr k) (inr l) = let h = rest k l in omega (arith, h)

-- a literal that is not seen to be false
abbrev pub HasOneOpen : List Lit → List Lit → Type 0
HasOneOpen held c = (m : Lit) × Contains c m × (Contains held (lit_complement m) → ⊥)

unseen_is_open : (held : List Lit) (m : Lit) → has held (lit_complement m) ≡ false → Contains held (lit_complement m) → ⊥
unseen_is_open held m e i = false≢true (sym e ∙ has-from_Contains held (lit_complement m) i)

-- a count has its literal
pub counted_one : (held c : List Lit) → 1 ≤ unseen held c → HasOneOpen held c
counted_one held [] h = absurd (omega arith)
counted_one held (x ∷ xs) h = go (counted_one held xs) (has held (lit_complement x)) refl h
  where
    go : (1 ≤ unseen held xs → HasOneOpen held xs) → (t : Bool) → has held (lit_complement x) ≡ t → 1 ≤ cond t (unseen held xs) (suc (unseen held xs)) → HasOneOpen held (x ∷ xs)
    go rest true e l = let r = rest l in (r.0, later x xs r.0 r.1, r.2)
    go rest false e l = (x, Contains-first xs x x refl, unseen_is_open held x e)

-- and two of a clause that has none twice
pub counted_two : (held c : List Lit) → HasNoTwice c → 2 ≤ unseen held c → IsUnresolved held c
counted_two held [] d h = absurd (omega arith)
counted_two held (x ∷ xs) d h = go (counted_two held xs d.1) (has held (lit_complement x)) refl h
  where
    go : (2 ≤ unseen held xs → IsUnresolved held xs) → (t : Bool) → has held (lit_complement x) ≡ t → 2 ≤ cond t (unseen held xs) (suc (unseen held xs)) → IsUnresolved held (x ∷ xs)
    go rest true e l =
        let r = rest l in
        record {
          one = r.one;
          other = r.other;
          has_one = later x xs r.one r.has_one;
          has_other = later x xs r.other r.has_other;
          differ = r.differ;
          one_open = r.one_open;
          other_open = r.other_open;
        }
    go rest false e l =
        let r = counted_one held xs (omega (arith, l)) in
        record {
          one = x;
          other = r.0;
          has_one = Contains-first xs x x refl;
          has_other = later x xs r.0 r.1;
          differ = λ s. d.0 (subst (λ (y : Lit). Contains xs y) (sym s) r.1);
          one_open = unseen_is_open held x e;
          other_open = r.2;
        }

-- a number that is there
pub times_there : (k : ℕ) (js : List ℕ) → Contains js k → 1 ≤ times k js
times_there k [] i = absurd (omega (arith, i.1))
times_there k (j ∷ js) i = go (times_there k js) (j == k) refl (cases j js k i)
  where
    go : (Contains js k → 1 ≤ times k js) → (t : Bool) → (j == k) ≡ t → (j ≡ k) ⊎ Contains js k → 1 ≤ cond t (suc (times k js)) (times k js)
    go rest true e w = omega arith
    go rest false e (inl s) = absurd (false≢true (sym e ∙ eq-eqb j k s))
    go rest false e (inr l) = rest l
