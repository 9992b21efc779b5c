-- How marked literals are counted and sorted by their levels.
use Rattle.std.proofs.Common.{◌≡◌, ◌≢◌, ℕ, zero, suc, ◌+◌, ◌<◌, ◌≤◌, ◌&&◌, Bool, true, false, cond, List, [], ◌∷◌, ◌++◌, length, set, get_or, replicate, Contains, ◌⊎◌, inl, inr, refl, sym, ap, ◌∙◌, subst, arith, true≢false}
use Rattle.std.specs.Prelude.{nat_eq}
use Rattle.std.specs.Cmp.Derive.{both_true}
use Rattle.std.proofs.lemmas.Bool.{cases_eq, cases_lt, eqb-true, eq-eqb}
use Rattle.std.proofs.lemmas.List.{get_or-set_same, get_or-set_other}
use Rattle.std.proofs.lemmas.List.Elements.{Contains-push, Contains-push_cases, Contains-append_left, Contains-get_or}
use Rattle.std.proofs.lemmas.List.Quantifiers.{all_pairs_push}
use Rattle.spec_text.proofs.Members.{none}
use Rattle.term_core.specs.declared.ids.Lit.{Lit}
use Rattle.clause_literals.specs.Literals.{lit_complement}
use Rattle.clause_literals.proofs.LiteralLists.{negation_twice}
use Rattle.sat_trail.specs.Trails.{TrailView, no_lit, VariablesAreApart}
use Rattle.conflict_learn.specs.Analyses.{IsVariableMarked, IsMarkedAt, count_before, IsLower, Sorting, Sorts}
use Rattle.conflict_learn.proofs.Places.{same_place}

plus_one : (k : ℕ) → k + 1 ≡ suc k
plus_one k = omega arith

module _ (v : TrailView) (n : ℕ) where
  abbrev lit : ℕ → Lit
  lit p = get_or v.literals p no_lit

  abbrev level : ℕ → ℕ
  level p = get_or v.levels p 0

  module _ (marks : List Bool) where
    abbrev count : ℕ → ℕ
    count k = count_before v marks n k

    pub count_le : (k : ℕ) → count_before v marks n k ≤ k
    count_le zero = omega arith
    count_le (suc k) = go (get_or marks (lit k).term.0 false && nat_eq (level k) n) (count_le k)
      where
        go : (b : Bool) → count k ≤ k → cond b (suc (count k)) (count k) ≤ suc k
        go true h = omega (arith, h)
        go false h = omega (arith, h)

    -- a marked place of the level counts
    pub count_one : (k : ℕ) → IsMarkedAt v marks k → level k ≡ n → count_before v marks n (suc k) ≡ suc (count_before v marks n k)
    count_one k m e = ap (λ b. cond b (suc (count k)) (count k)) (both_true m (eq-eqb (level k) n e))

    -- another does not
    pub count_none : (k : ℕ) → (IsMarkedAt v marks k → level k ≡ n → ⊥) → count_before v marks n (suc k) ≡ count_before v marks n k
    count_none k free = go (get_or marks (lit k).term.0 false) (nat_eq (level k) n) refl refl
      where
        go : (a b : Bool) → get_or marks (lit k).term.0 false ≡ a → nat_eq (level k) n ≡ b → count_before v marks n (suc k) ≡ count k
        go true true p q = absurd (free p (eqb-true (level k) n q))
        go true false p q = (λ i. cond (p i && q i) (suc (count k)) (count k))
        go false b p q = (λ i. cond (p i && nat_eq (level k) n) (suc (count k)) (count k))

    -- at each place one of the two is so
    counts_or : (k : ℕ) → (IsMarkedAt v marks k × (level k ≡ n)) ⊎ (IsMarkedAt v marks k → level k ≡ n → ⊥)
    counts_or k = go (get_or marks (lit k).term.0 false) refl
      where
        go : (a : Bool) → get_or marks (lit k).term.0 false ≡ a → (IsMarkedAt v marks k × (level k ≡ n)) ⊎ (IsMarkedAt v marks k → level k ≡ n → ⊥)
        go true m = elim (cases_eq (level k) n) [ inl e ↦ inl (m, e) | inr ne ↦ inr (λ _ e. ne e) ]
        go false m = inr (λ h e. true≢false (sym h ∙ m))

    count_some : (k p : ℕ) → p < k → IsMarkedAt v marks p → level p ≡ n → 1 ≤ count k
    count_some zero p lt m e = absurd (omega (arith, lt))
    count_some (suc k) p lt m e = elim (cases_lt p k) [
      | inl below ↦ elim (counts_or k) [
        | inl h ↦ omega (arith, count_one k h.0 h.1)
        | inr free ↦ omega (arith, count_none k free, count_some k p below m e)
      ]
      | inr from ↦
          let is : p ≡ k = omega (arith, from, lt) in
          omega (arith, count_one k (subst (λ (j : ℕ). IsMarkedAt v marks j) is m) (subst (λ (j : ℕ). level j ≡ n) is e))
    ]

    -- two count two
    pub count_two : (k p q : ℕ) → p < q → q < k → IsMarkedAt v marks p → level p ≡ n → IsMarkedAt v marks q → level q ≡ n → 2 ≤ count_before v marks n k
    count_two zero p q pq lt m e h f = absurd (omega (arith, lt))
    count_two (suc k) p q pq lt m e h f = elim (cases_lt q k) [
      | inl below ↦ elim (counts_or k) [
        | inl g ↦ omega (arith, count_one k g.0 g.1, count_two k p q pq below m e h f)
        | inr free ↦ omega (arith, count_none k free, count_two k p q pq below m e h f)
      ]
      | inr from ↦
          let is : q ≡ k = omega (arith, from, lt) in
          omega (arith, count_one k (subst (λ (j : ℕ). IsMarkedAt v marks j) is h) (subst (λ (j : ℕ). level j ≡ n) is f), count_some k p (omega (arith, pq, is)) m e)
    ]

    -- where one is counted, it is somewhere
    counted_one : (k : ℕ) → 1 ≤ count k → (p : ℕ) × (p < k) × IsMarkedAt v marks p × (level p ≡ n)
    counted_one zero h = absurd (omega (arith, h))
    counted_one (suc k) h = elim (counts_or k) [
      | inl g ↦ (k, omega arith, g.0, g.1)
      | inr free ↦ let r = counted_one k (omega (arith, h, count_none k free)) in (r.0, omega (arith, r.1), r.2, r.3)
    ]

    -- and where two are, both are
    pub counted_two : (k : ℕ) → 2 ≤ count_before v marks n k → (p q : ℕ) × (p < q) × (q < k) × IsMarkedAt v marks p × (level p ≡ n) × IsMarkedAt v marks q × (level q ≡ n)
    counted_two zero h = absurd (omega (arith, h))
    counted_two (suc k) h = elim (counts_or k) [
      | inl g ↦ let r = counted_one k (omega (arith, h, count_one k g.0 g.1)) in (r.0, k, r.1, omega arith, r.2, r.3, g.0, g.1)
      | inr free ↦ let r = counted_two k (omega (arith, h, count_none k free)) in (r.0, r.1, r.2, omega (arith, r.3), r.4, r.5, r.6, r.7)
    ]

  -- nothing is sorted where nothing came up
  pub sorts_none : (k size : ℕ) → k ≤ length v.literals → ((x : ℕ) → IsVariableMarked (replicate size false) x → ⊥) → Sorts v n k (record { marks = replicate size false; many = 0; lower = []; back = 0; fixed = false })
  sorts_none k size le free = record {
    within = le;
    counted = no_count k;
    once = λ i j d lt small. absurd (omega (arith, small));
    all = λ p l up. absurd (free (lit p).term.0 l.is_marked);
    only = λ m i. absurd (none m i);
    bounded = λ p l. absurd (free (lit p).term.0 l.is_marked);
    reached = inl refl;
    has_fixed = λ p l e. absurd (free (lit p).term.0 l.is_marked);
  }
    where
      no_count : (j : ℕ) → 0 ≡ count_before v (replicate size false) n j
      no_count zero = refl
      no_count (suc j) = no_count j ∙ sym (count_none (replicate size false) j (λ m e. free (lit j).term.0 m))

  -- a place that is left counts no more
  pub sorts_past : (k : ℕ) (a : Sorting) → (IsMarkedAt v a.marks k → ⊥) → Sorts v n (k + 1) a → Sorts v n k a
  sorts_past k a free s = record {
    within = omega (arith, s.within);
    counted = s.counted ∙ next ∙ count_none a.marks k (λ m e. free m);
    once = s.once;
    all = s.all;
    only = s.only;
    bounded = s.bounded;
    reached = s.reached;
    has_fixed = s.has_fixed;
  }
    where
      next : count_before v a.marks n (k + 1) ≡ count_before v a.marks n (suc k)
      next = ap (count_before v a.marks n) (plus_one k)

  pub sorts_less : (k : ℕ) (a : Sorting) (less : ℕ) → IsMarkedAt v a.marks k → level k ≡ n → less + 1 ≡ a.many → Sorts v n (k + 1) a → Sorts v n k (record { marks = a.marks; many = less; lower = a.lower; back = a.back; fixed = a.fixed })
  sorts_less k a less m e is s = record {
    within = omega (arith, s.within);
    counted = omega (arith, is, s.counted, next, count_one a.marks k m e);
    once = s.once;
    all = s.all;
    only = s.only;
    bounded = s.bounded;
    reached = s.reached;
    has_fixed = s.has_fixed;
  }
    where
      next : count_before v a.marks n (k + 1) ≡ count_before v a.marks n (suc k)
      next = ap (count_before v a.marks n) (plus_one k)

  -- one mark more
  module _ (apart : VariablesAreApart v.literals) (k : ℕ) (a : Sorting) (s : Sorts v n k a) (m : Lit) (q : ℕ) (before : q < k) (there : lit q ≡ lit_complement m)
      (fits : m.term.0 < length a.marks) (new : IsVariableMarked a.marks m.term.0 → ⊥) where
    abbrev more : List Bool
    more = set a.marks m.term.0 true

    within : q < length v.literals
    within = omega (arith, before, s.within)

    own : (lit q).term.0 ≡ m.term.0
    own = ap (λ (l : Lit). l.term.0) there

    -- it is that of its place alone
    is_place : (p : ℕ) → p < length v.literals → (lit p).term.0 ≡ m.term.0 → p ≡ q
    is_place p lt e = same_place v apart p q lt within (e ∙ sym own)

    marked_there : IsMarkedAt v more q
    marked_there = ap (λ (x : ℕ). get_or more x false) own ∙ get_or-set_same a.marks m.term.0 true false fits

    marked_other : (p : ℕ) → p < length v.literals → p ≢ q → get_or more (lit p).term.0 false ≡ get_or a.marks (lit p).term.0 false
    marked_other p lt ne = get_or-set_other a.marks m.term.0 (lit p).term.0 true false (λ e. ne (is_place p lt e))

    not_there : IsMarkedAt v a.marks q → ⊥
    not_there h = new (subst (IsVariableMarked a.marks) own h)

    count_same : (j : ℕ) → j ≤ length v.literals → ((p : ℕ) → p < j → p ≡ q → level p ≡ n → ⊥) → count_before v more n j ≡ count_before v a.marks n j
    count_same zero le free = refl
    count_same (suc j) le free = same_by (count_same j (omega (arith, le)) (λ p lt. free p (omega (arith, lt))))
      where
        same_by : count_before v more n j ≡ count_before v a.marks n j → count_before v more n (suc j) ≡ count_before v a.marks n (suc j)
        same_by rest = elim (cases_eq j q) [
          | inl e ↦ count_none more j (λ _ f. free j (omega arith) e f) ∙ rest ∙ sym (count_none a.marks j (λ _ f. free j (omega arith) e f))
          | inr ne ↦ (λ i. cond (marked_other j (omega (arith, le)) ne i && nat_eq (level j) n) (suc (rest i)) (rest i))
        ]

    count_more : (j : ℕ) → j ≤ length v.literals → q < j → level q ≡ n → count_before v more n j ≡ suc (count_before v a.marks n j)
    count_more zero le lt e = absurd (omega (arith, lt))
    count_more (suc j) le lt e = more_by (λ below. count_more j (omega (arith, le)) below e)
      where
        more_by : (q < j → count_before v more n j ≡ suc (count_before v a.marks n j)) → count_before v more n (suc j) ≡ suc (count_before v a.marks n (suc j))
        more_by rest = elim (cases_eq j q) [
          | inl is ↦
              count_one more j (subst (λ (i : ℕ). IsMarkedAt v more i) (sym is) marked_there) (ap level is ∙ e)
              ∙ ap suc (count_same j (omega (arith, le)) (λ p small same _. omega (arith, small, same, is)) ∙ sym (count_none a.marks j (λ h _. not_there (subst (λ (i : ℕ). IsMarkedAt v a.marks i) is h))))
          | inr ne ↦ go (get_or a.marks (lit j).term.0 false && nat_eq (level j) n) (rest (omega (arith, lt, ne))) (λ i. marked_other j (omega (arith, le)) ne i && nat_eq (level j) n)
        ]
          where
            go : (b : Bool) → count_before v more n j ≡ suc (count_before v a.marks n j) → (get_or more (lit j).term.0 false && nat_eq (level j) n) ≡ b → count_before v more n (suc j) ≡ suc (cond b (suc (count_before v a.marks n j)) (count_before v a.marks n j))
            go true h f = ap (λ b. cond b (suc (count_before v more n j)) (count_before v more n j)) f ∙ ap suc h
            go false h f = ap (λ b. cond b (suc (count_before v more n j)) (count_before v more n j)) f ∙ h

    -- what is lower is so still, or is the new one
    lower_still : (p : ℕ) → IsLower v n a.marks p → IsLower v n more p
    lower_still p l = elim (cases_eq p q) [
      | inl e ↦ absurd (not_there (subst (λ (i : ℕ). IsMarkedAt v a.marks i) e l.is_marked))
      | inr ne ↦ record { within = l.within; is_marked = marked_other p l.within ne ∙ l.is_marked; of_other = l.of_other }
    ]

    lower_or : (p : ℕ) → IsLower v n more p → IsLower v n a.marks p ⊎ (p ≡ q)
    lower_or p l = elim (cases_eq p q) [
      | inl e ↦ inr e
      | inr ne ↦ inl (record { within = l.within; is_marked = sym (marked_other p l.within ne) ∙ l.is_marked; of_other = l.of_other })
    ]

    -- one of the level
    pub sorts_level : level q ≡ n → Sorts v n k (record { marks = set a.marks m.term.0 true; many = a.many + 1; lower = a.lower; back = a.back; fixed = a.fixed })
    sorts_level e = record {
      within = s.within;
      counted = omega (arith, s.counted, count_more k s.within before e);
      once = s.once;
      all = λ p l up. s.all p (old p l) up;
      only = λ x i. let h = s.only x i in (h.0, lower_still h.0 h.1, h.2, h.3);
      bounded = λ p l. s.bounded p (old p l);
      reached = elim s.reached [ inl z ↦ inl z | inr h ↦ inr (h.0, lower_still h.0 h.1, h.2) ];
      has_fixed = λ p l z. s.has_fixed p (old p l) z;
    }
      where
        old : (p : ℕ) → IsLower v n more p → IsLower v n a.marks p
        old p l = elim (lower_or p l) [ inl h ↦ h | inr is ↦ absurd (l.of_other (ap level is ∙ e)) ]

    -- one of level 0
    pub sorts_fixed : level q ≢ n → level q ≡ 0 → Sorts v n k (record { marks = set a.marks m.term.0 true; many = a.many; lower = a.lower; back = a.back; fixed = true })
    sorts_fixed ne zero_level = record {
      within = s.within;
      counted = s.counted ∙ sym (count_same k s.within (λ p lt is f. ne (ap level (sym is) ∙ f)));
      once = s.once;
      all = λ p l up. elim (lower_or p l) [ inl h ↦ s.all p h up | inr is ↦ absurd (omega (arith, up, ap level is, zero_level)) ];
      only = λ x i. let h = s.only x i in (h.0, lower_still h.0 h.1, h.2, h.3);
      bounded = λ p l. elim (lower_or p l) [ inl h ↦ s.bounded p h | inr is ↦ omega (arith, ap level is, zero_level) ];
      reached = elim s.reached [ inl z ↦ inl z | inr h ↦ inr (h.0, lower_still h.0 h.1, h.2) ];
      has_fixed = λ p l z. refl;
    }

    -- one of another level
    pub sorts_lower : level q ≢ n → 0 < level q → (back : ℕ) → a.back ≤ back → level q ≤ back → (back ≡ a.back) ⊎ (back ≡ level q)
        → Sorts v n k (record { marks = set a.marks m.term.0 true; many = a.many; lower = a.lower ++ m ∷ []; back = back; fixed = a.fixed })
    sorts_lower ne up back old_le own_le one_of = record {
      within = s.within;
      counted = s.counted ∙ sym (count_same k s.within (λ p lt is f. ne (ap level (sym is) ∙ f)));
      once = all_pairs_push (λ (l x : Lit). l.term ≡ x.term → ⊥) a.lower m s.once (λ i d lt e. apart_from (get_or a.lower i d) (Contains-get_or a.lower i d lt) (ap (λ t. t.0) e));
      all = λ p l h. elim (lower_or p l) [
        | inl was ↦ Contains-append_left a.lower (m ∷ []) (lit_complement (lit p)) (s.all p was h)
        | inr is ↦ subst (Contains (a.lower ++ m ∷ [])) (sym (ap (λ (i : ℕ). lit_complement (lit i)) is ∙ ap lit_complement there ∙ negation_twice m)) (Contains-push a.lower m)
      ];
      only = λ x i. elim (Contains-push_cases a.lower m x i) [
        | inl was ↦ let h = s.only x was in (h.0, lower_still h.0 h.1, h.2, h.3)
        | inr e ↦ (q, this, up, there ∙ ap lit_complement e)
      ];
      bounded = λ p l. elim (lower_or p l) [ inl h ↦ omega (arith, s.bounded p h, old_le) | inr is ↦ omega (arith, ap level is, own_le) ];
      reached = elim one_of [
        | inl e ↦ elim s.reached [ inl z ↦ inl (e ∙ z) | inr h ↦ inr (h.0, lower_still h.0 h.1, h.2 ∙ sym e) ]
        | inr e ↦ inr (q, this, sym e)
      ];
      has_fixed = λ p l z. elim (lower_or p l) [ inl h ↦ s.has_fixed p h z | inr is ↦ absurd (omega (arith, up, ap level is, z)) ];
    }
      where
        this : IsLower v n more q
        this = record { within = within; is_marked = marked_there; of_other = ne }

        apart_from : (x : Lit) → Contains a.lower x → x.term.0 ≡ m.term.0 → ⊥
        apart_from x i e =
            let h = s.only x i in
            new (subst (IsVariableMarked a.marks) (ap (λ (l : Lit). l.term.0) h.3 ∙ e) h.1.is_marked)
