-- Where pairs are quiet, and what keeps them so.
use Rattle.std.proofs.Common.{◌≡◌, ◌≢◌, ℕ, ◌<◌, ◌≤◌, List, [], length, get_or, set, take, Contains, ◌⊎◌, inl, inr, refl, sym, ap, ◌∙◌, subst, arith}
use Rattle.std.proofs.lemmas.Bool.{cases_eq}
use Rattle.std.proofs.lemmas.List.{length-set, get_or-set_same, get_or-set_other, get_or_default, length-take-le, get_or-take}
use Rattle.term_core.specs.declared.ids.Lit.{Lit}
use Rattle.clause_literals.specs.Literals.{lit_complement, IsConsistent}
use Rattle.clause_literals.specs.Statuses.{PropagatesNothing}
use Rattle.clause_literals.proofs.LiteralLists.{is_in}
use Rattle.sat_trail.specs.Trails.{TrailView, no_lit}
use Rattle.clause_store.specs.declared.pair.Pair.{Pair}
use Rattle.clause_store.specs.Stores.{StoreView, no_pair}
use Rattle.clause_store.specs.Propagating.{Advances, IsPropagated}
use Rattle.clause_store.specs.Watching.{Has, IsPairOf, ArePairs, IsQuietPair, AreQuietPairs, AreLiteralsAmong, HaveSameShapes, PropagatesPart, IsRepaired, IsFresh, AnyPrefix, Below}
use Rattle.clause_store.proofs.Adding.{advances_none, advances_on, holds_on}
use Rattle.clause_store.proofs.Indexing.{one_or_two}

-- ---- quiet pairs

-- more may hold
pub quiet_on : (front held more : List Lit) (p : Pair) → AreLiteralsAmong held more → IsQuietPair front held p → IsQuietPair front more p
quiet_on front held more p w h = record { by_first = λ c. w _ (h.by_first c); by_second = λ c. w _ (h.by_second c); alone = λ e. w _ (h.alone e) }

pub all_quiet_on : (count : ℕ) (pairs : List Pair) (front held more : List Lit) → AreLiteralsAmong held more → AreQuietPairs count pairs front held → AreQuietPairs count pairs front more
all_quiet_on count pairs front held more w h n lt = quiet_on front held more _ w (h n lt)

-- a prefix is within
pub front_within : (n : ℕ) (held : List Lit) → n ≤ length held → AreLiteralsAmong (take n held) held
front_within n held le l (i, lt, e) =
    let k : i < n = omega (arith, lt, length-take-le n held le) in
    (i, omega (arith, k, le), sym (get_or-take n held i l k) ∙ e)

-- where all are quiet by what holds, nothing follows
pub quiet : (clauses : List (List Lit)) (pairs : List Pair) (held : List Lit) → ArePairs clauses pairs → ((n : ℕ) → n < length clauses → Contains (get_or clauses n []) (get_or pairs n no_pair).first)
    → AreQuietPairs (length clauses) pairs held held → IsPropagated clauses held
quiet clauses pairs held ps there r c (n, lt, e) = subst (PropagatesNothing held) (get_or_default clauses n [] c lt ∙ e) (go (one_or_two p) (is_in held (lit_complement p.first)) (is_in held (lit_complement p.second)))
  where
    p : Pair
    p = get_or pairs n no_pair

    go : (p.first ≡ p.second) ⊎ (p.first ≢ p.second) → Contains held (lit_complement p.first) ⊎ (Contains held (lit_complement p.first) → ⊥) → Contains held (lit_complement p.second) ⊎ (Contains held (lit_complement p.second) → ⊥) → PropagatesNothing held (get_or clauses n [])
    go (inl s) a b = inl (record { literal = p.first; there = there n lt; holds = (r n lt).alone s })
    go (inr d) (inl a) b = inl (record { literal = p.second; there = (ps.each n lt).second_in d; holds = (r n lt).by_first a })
    go (inr d) (inr a) (inl b) = inl (record { literal = p.first; there = (ps.each n lt).first_in d; holds = (r n lt).by_second b })
    go (inr d) (inr a) (inr b) = inr (record { one = p.first; other = p.second; has_one = (ps.each n lt).first_in d; has_other = (ps.each n lt).second_in d; differ = d; one_open = a; other_open = b })

-- ---- what a part of propagation does

pub shapes_none : (pairs : List Pair) → HaveSameShapes pairs pairs
shapes_none pairs = record { one = λ n e. refl; two = λ n d. d }

pub shapes_on : (a b c : List Pair) → HaveSameShapes a b → HaveSameShapes b c → HaveSameShapes a c
shapes_on a b c g h = record {
  one = λ n e. h.one n (subst (λ (p : Pair). p.first ≡ p.second) (sym (g.one n e)) e) ∙ g.one n e;
  two = λ n d. h.two n (g.two n d);
}

-- a pair of two becomes another one
pub shapes_set : (pairs : List Pair) (n : ℕ) (p : Pair) → n < length pairs → (get_or pairs n no_pair).first ≢ (get_or pairs n no_pair).second → p.first ≢ p.second → HaveSameShapes pairs (set pairs n p)
shapes_set pairs n p below two d = record {
  one = λ m e. elim (cases_eq m n) [
    | inl is ↦ absurd (two (subst (λ (k : ℕ). (get_or pairs k no_pair).first ≡ (get_or pairs k no_pair).second) is e))
    | inr o ↦ get_or-set_other pairs n m p no_pair o
  ];
  two = λ m e. elim (cases_eq m n) [
    | inl is ↦ rw (is, get_or-set_same pairs n p no_pair below) d
    | inr o ↦ rw (get_or-set_other pairs n m p no_pair o) e
  ];
}

pub goes_none : (s : StoreView) (count : ℕ) (pairs : List Pair) (t : TrailView) → PropagatesPart s count pairs pairs t t
goes_none s count pairs t = record { advances = advances_none s t; paired = refl; shapes = shapes_none pairs; prefixes = λ F G f g h. h }

pub goes_on : (s : StoreView) (count : ℕ) (a b c : List Pair) (u v w : TrailView) → PropagatesPart s count a b u v → PropagatesPart s count b c v w → PropagatesPart s count a c u w
goes_on s count a b c u v w g h = record {
  advances = advances_on s u v w g.advances h.advances;
  paired = h.paired ∙ g.paired;
  shapes = shapes_on a b c g.shapes h.shapes;
  prefixes = λ F G f k r. h.prefixes F G (λ l x. holds_on s u v g.advances.0 l (f l x)) (λ l x. holds_on s u v g.advances.0 l (k l x)) (g.prefixes F G f k r);
}

-- literals alone are added
pub goes_by : (s : StoreView) (count : ℕ) (pairs : List Pair) (t u : TrailView) → Advances s t u → PropagatesPart s count pairs pairs t u
goes_by s count pairs t u a = record { advances = a; paired = refl; shapes = shapes_none pairs; prefixes = λ F G f g h. h }

-- other pairs than the first are changed
pub goes_past : (s : StoreView) (n : ℕ) (old new : List Pair) (t u : TrailView) → Advances s t u → IsRepaired n old new → PropagatesPart s n old new t u
goes_past s n old new t u a r = record {
  advances = a;
  paired = r.paired;
  shapes = r.shapes;
  prefixes = λ F G f g h m lt. subst (IsQuietPair F G) (sym (r.others m (omega (arith, lt)))) (h m lt);
}

-- a watch moves from a false literal to one that is not
module _ (s : StoreView) (pairs : List Pair) (t : TrailView) (n : ℕ) (f d other : Lit) (p : Pair)
    (below : n < length pairs) (two : (get_or pairs n no_pair).first ≢ (get_or pairs n no_pair).second) (consistent : IsConsistent t.literals) (fails : Contains t.literals (lit_complement f))
    (open_d : Contains t.literals (lit_complement d) → ⊥) (differs : d ≢ other) (is : p ≡ record { first = other; second = d })
    (keeps : (F G : List Lit) → IsQuietPair F G (get_or pairs n no_pair) → Contains F (lit_complement other) → Contains G f) where
  pub goes_moved : PropagatesPart s (length pairs) pairs (set pairs n p) t t
  goes_moved = record { advances = advances_none s t; paired = length-set pairs n p; shapes = shapes_set pairs n p below two (rw is (λ e. differs (sym e))); prefixes = prefixes }
    where
      here : (F G : List Lit) → AreLiteralsAmong F t.literals → AreLiteralsAmong G t.literals → IsQuietPair F G (get_or pairs n no_pair) → IsQuietPair F G (record { first = other; second = d })
      here F G a b h = record {
        by_first = λ c. absurd (consistent f (b f (keeps F G h c)) fails);
        by_second = λ c. absurd (open_d (a (lit_complement d) c));
        alone = λ e. absurd (differs (sym e));
      }

      prefixes : (F G : List Lit) → AreLiteralsAmong F t.literals → AreLiteralsAmong G t.literals → AreQuietPairs (length pairs) pairs F G → AreQuietPairs (length pairs) (set pairs n p) F G
      prefixes F G a b h m lt = elim (cases_eq m n) [
        | inl e ↦ rw (e, get_or-set_same pairs n p no_pair below, is) (here F G a b (h n below))
        | inr o ↦ rw (get_or-set_other pairs n m p no_pair o) (h m lt)
      ]

-- ---- a clause that is looked at for the first time

-- the two literals of a pair that has both
pub both_of : (p : Pair) (a b : Lit) → a ≢ b → Has p a → Has p b → ((p.first ≡ a) × (p.second ≡ b)) ⊎ ((p.first ≡ b) × (p.second ≡ a))
both_of p a b d (inl e) (inl f) = absurd (d (sym e ∙ f))
both_of p a b d (inl e) (inr f) = inl (e, f)
both_of p a b d (inr e) (inl f) = inr (f, e)
both_of p a b d (inr e) (inr f) = absurd (d (sym e ∙ f))

module _ (clause held : List Lit) (p : Pair) (a b : Lit) (d : a ≢ b) (one : Has p a) (two : Has p b) (pair : IsPairOf clause p) where
  pub two_differ : p.first ≢ p.second
  two_differ = elim (both_of p a b d one two) [
    | inl w ↦ λ e. d (sym w.0 ∙ e ∙ w.1)
    | inr w ↦ λ e. d (sym w.1 ∙ sym e ∙ w.0)
  ]

  -- what is so of both is so of either
  either : (P : Lit → Type 0) → P a → P b → P p.first × P p.second
  either P x y = elim (both_of p a b d one two) [
    | inl w ↦ (subst P (sym w.0) x, subst P (sym w.1) y)
    | inr w ↦ (subst P (sym w.0) y, subst P (sym w.1) x)
  ]

  -- neither is false
  pub fresh_open : (Contains held (lit_complement a) → ⊥) → (Contains held (lit_complement b) → ⊥) → IsFresh clause held p AnyPrefix
  fresh_open na nb =
      let none = either (λ (l : Lit). Contains held (lit_complement l) → ⊥) na nb in
      let quiet_at : (F G : List Lit) → AreLiteralsAmong F held → IsQuietPair F G p = λ F G w. record { by_first = λ c. absurd (none.0 (w _ c)); by_second = λ c. absurd (none.1 (w _ c)); alone = λ e. absurd (two_differ e) } in
      record { there = pair.first_in two_differ; now = λ F w. quiet_at F held w; prefixes = λ r le s. quiet_at (take r held) (take r held) (front_within r held le) }

  -- the one holds, and the other may be false
  pub fresh_forced : (Safe : ℕ → Type 0) → IsConsistent held → Contains held a → ((r : ℕ) → r ≤ length held → Safe r → Contains (take r held) (lit_complement b) → ⊥) → IsFresh clause held p Safe
  fresh_forced Safe consistent h safe = record {
    there = pair.first_in two_differ;
    now = λ F w. elim (both_of p a b d one two) [
      | inl e ↦ record {
        by_first = λ c. absurd (consistent a h (w _ (subst (λ (l : Lit). Contains F (lit_complement l)) e.0 c)));
        by_second = λ c. subst (Contains held) (sym e.0) h;
        alone = λ s. absurd (two_differ s);
      }
      | inr e ↦ record {
        by_first = λ c. subst (Contains held) (sym e.1) h;
        by_second = λ c. absurd (consistent a h (w _ (subst (λ (l : Lit). Contains F (lit_complement l)) e.1 c)));
        alone = λ s. absurd (two_differ s);
      }
    ];
    prefixes = λ r le s.
        let none = either (λ (l : Lit). Contains (take r held) (lit_complement l) → ⊥) (λ c. consistent a h (front_within r held le _ c)) (safe r le s) in
        record { by_first = λ c. absurd (none.0 c); by_second = λ c. absurd (none.1 c); alone = λ e. absurd (two_differ e) };
  }

-- the only literal holds
pub fresh_single : (clause held : List Lit) (p : Pair) (a : Lit) (Safe : ℕ → Type 0) → ((r : ℕ) → Safe r → ⊥) → IsPairOf clause p → p.first ≡ p.second → Contains clause a → Contains held a → IsFresh clause held p Safe
fresh_single clause held p a Safe none pair e there h =
    let is : a ≡ p.first = pair.alone e a there in
    record {
      there = subst (Contains clause) is there;
      now = λ F w. record { by_first = λ c. subst (Contains held) (is ∙ e) h; by_second = λ c. subst (Contains held) is h; alone = λ s. subst (Contains held) is h };
      prefixes = λ r le s. absurd (none r s);
    }

-- a literal that is false since a level is not false in a prefix below it
pub below_safe : (t : TrailView) (level : ℕ) (l : Lit) → ((p : ℕ) → p < length t.literals → (get_or t.literals p no_lit).term ≡ l.term → level ≡ get_or t.levels p 0)
    → (r : ℕ) → r ≤ length t.literals → Below t level r → Contains (take r t.literals) (lit_complement l) → ⊥
below_safe t level l by r le b (i, lt, e) =
    let before : i < r = omega (arith, lt, length-take-le r t.literals le) in
    let there : i < length t.literals = omega (arith, before, le) in
    let is : get_or t.literals i no_lit ≡ lit_complement l = get_or_default t.literals i no_lit (lit_complement l) there ∙ sym (get_or-take r t.literals i (lit_complement l) before) ∙ e in
    omega (arith, b i before, by i there (ap (λ (x : Lit). x.term) is))
