-- How many literals of each premise are left.
use Rattle.std.proofs.Common.{◌≡◌, ◌≢◌, ℕ, ◌+◌, ◌-◌, ◌<◌, ◌≤◌, ◌==◌, suc, Bool, true, false, cond, List, [], ◌∷◌, ◌++◌, length, get_or, set, take, drop, Contains, All, inl, inr, sym, ap, ◌∙◌, subst, refl, arith}
use Rattle.std.proofs.lemmas.Bool.{false≢true, eqb-true, eq-eqb}
use Rattle.std.proofs.lemmas.Bool.Decides.{nat_tests}
use Rattle.std.proofs.lemmas.List.{take-append-drop, get_or-set_same, get_or-set_other, get_or_push, get_or_append_left, get_or_default}
use Rattle.std.proofs.lemmas.List.Elements.{Contains-push, Contains-append_left}
use Rattle.spec_proofs.specs.Resolution.{IsWithin}
use Rattle.term_core.specs.declared.ids.Lit.{Lit}
use Rattle.clause_literals.specs.Literals.{lit_complement, HasNoTwice, AddsLast}
use Rattle.clause_literals.specs.Statuses.{IsUnit, IsUnresolved, IsSatisfied, PropagatesNothing}
use Rattle.clause_literals.specs.Propagation.{Advances, IsBounded, IsTracked, AreTracked, TakesUp, unseen, times}
use Rattle.clause_literals.proofs.LiteralLists.{is_in, adds_new}
use Rattle.clause_literals.proofs.Advancing.{held_on}
use Rattle.clause_literals.proofs.Counting.{unseen_all, lose_none, lose_one, two_count, counted_two, times_there}

-- ---- one premise is taken up

-- two are left
pub takes_none : (c held : List Lit) (n : ℕ) → 1 < n → TakesUp c held held n n
takes_none c held n two = record {
  follows = inl refl;
  tracked = λ seen more within b. elim b [ inl t ↦ inl t | inr h ↦ inr (omega arith, h) ];
}

-- one is open
pub takes_unit : (c old new : List Lit) (l : Lit) (n : ℕ) → IsUnit old c l → AddsLast old l new → TakesUp c old new n n
takes_unit c old new l n u a = let e = adds_new old new l a u.not_held in record {
  follows = inr (l, u, e);
  tracked = λ seen more within b. inl (record { literal = l; there = u.there; holds = subst (λ (h : List Lit). Contains h l) (sym e) (Contains-push old l) });
}

-- two are open
pub takes_open : (c held : List Lit) (n : ℕ) → IsUnresolved held c → TakesUp c held held n 2
takes_open c held n o = record {
  follows = inl refl;
  tracked = λ seen more within b.
      let h = two_count seen c o.one o.other o.has_one o.has_other o.differ (λ i. o.one_open (within (lit_complement o.one) i)) (λ i. o.other_open (within (lit_complement o.other) i)) in
      inr (omega arith, omega (arith, h));
}

-- one holds
pub takes_true : (c held : List Lit) (n : ℕ) → IsSatisfied held c → TakesUp c held held n n
takes_true c held n t = record { follows = inl refl; tracked = λ seen more within b. inl t }

-- ---- all premises

-- a list with more literals tracks what it tracked
pub tracked_on : (seen old new c : List Lit) (more n : ℕ) → ((m : Lit) → Contains old m → Contains new m) → IsTracked seen old more c n → IsTracked seen new more c n
tracked_on seen old new c more n on (inl t) = inl (record { literal = t.literal; there = t.there; holds = on t.literal t.holds })
tracked_on seen old new c more n on (inr h) = inr h

-- of the same clause and number
tracked_at : (seen held : List Lit) (more : ℕ) (c d : List Lit) (m n : ℕ) → c ≡ d → m ≡ n → IsTracked seen held more c m → IsTracked seen held more d n
tracked_at seen held more c d m n e f h = let P : ℕ → Type 0 = λ x. IsTracked seen held more d x in subst P f (let Q : List Lit → Type 0 = λ x. IsTracked seen held more x m in subst Q e h)

differ : (j k : ℕ) → (j == k) ≡ false → j ≢ k
differ j k e s = false≢true (sym e ∙ eq-eqb j k s)

-- the first premises, and one more
module _ (premises : List (List Lit)) (old new : List Lit) (left : List ℕ) (i n : ℕ) where
  pub begins_more : Advances premises old new → length left ≡ i → TakesUp (get_or premises i []) old new (length (get_or premises i [])) n → AreTracked i [] [] premises old left → AreTracked (i + 1) [] [] premises new (left ++ n ∷ [])
  begins_more a counted t before k lt = go (k == i) refl
    where
      c : List Lit
      c = get_or premises i []

      here : IsTracked [] new 0 c n
      here = t.tracked [] 0 (λ m j. absurd (omega (arith, j.1))) (inr (let u = unseen_all c in omega (arith, u)))

      go : (b : Bool) → (k == i) ≡ b → IsTracked [] new 0 (get_or premises k []) (get_or (left ++ n ∷ []) k 0)
      go true e =
          let s = eqb-true k i e in
          tracked_at [] new 0 c (get_or premises k []) n (get_or (left ++ n ∷ []) k 0) (ap (λ x. get_or premises x []) (sym s)) (sym (get_or_push left n 0 k (counted ∙ sym s))) here
      go false e =
          let d = differ k i e in
          let l : k < i = grind (arith, nat_tests) in
          tracked_at [] new 0 (get_or premises k []) (get_or premises k []) (get_or left k 0) (get_or (left ++ n ∷ []) k 0) refl (sym (get_or_append_left left (n ∷ []) 0 k (omega (arith, l, counted)))) (tracked_on [] old new (get_or premises k []) 0 (get_or left k 0) (held_on premises old new a) (before k l))

-- a premise that has lost a literal is taken up
module _ (total : ℕ) (premises : List (List Lit)) (seen old new : List Lit) (left : List ℕ) (number n : ℕ) (rest : List ℕ) where
  pub loses_one : number < length left → IsWithin seen old → ((m : Lit) → Contains old m → Contains new m) → TakesUp (get_or premises number []) old new (get_or left number 0 - 1) n → AreTracked total seen (number ∷ rest) premises old left → AreTracked total seen rest premises new (set left number n)
  loses_one lt within on t before k kt = go (number == k) refl (before k kt)
    where
      c : List Lit
      c = get_or premises number []

      bounded : (more : ℕ) → IsTracked seen old (suc more) c (get_or left number 0) → IsBounded seen old more c (get_or left number 0 - 1)
      bounded more (inl w) = inl w
      bounded more (inr h) = inr (omega (arith, h.1))

      go : (b : Bool) → (number == k) ≡ b → IsTracked seen old (cond b (suc (times k rest)) (times k rest)) (get_or premises k []) (get_or left k 0) → IsTracked seen new (times k rest) (get_or premises k []) (get_or (set left number n) k 0)
      go true e was =
          let s = eqb-true number k e in
          let before_here = tracked_at seen old (suc (times k rest)) (get_or premises k []) c (get_or left k 0) (get_or left number 0) (ap (λ x. get_or premises x []) (sym s)) (ap (λ x. get_or left x 0) (sym s)) was in
          tracked_at seen new (times k rest) c (get_or premises k []) n (get_or (set left number n) k 0) (ap (λ x. get_or premises x []) s) (sym (ap (λ x. get_or (set left number n) x 0) (sym s) ∙ get_or-set_same left number n 0 lt)) (t.tracked seen (times k rest) within (bounded (times k rest) before_here))
      go false e was =
          let d = differ number k e in
          tracked_at seen new (times k rest) (get_or premises k []) (get_or premises k []) (get_or left k 0) (get_or (set left number n) k 0) refl (sym (get_or-set_other left number k n 0 (λ s. d (sym s)))) (tracked_on seen old new (get_or premises k []) (times k rest) (get_or left k 0) on was)

-- ---- a literal that holds

pub within_take : (held : List Lit) (n : ℕ) → IsWithin (take n held) held
within_take held n m i = subst (λ (h : List Lit). Contains h m) (take-append-drop n held) (Contains-append_left (take n held) (drop n held) m i)

-- the premises with its complement have still to lose it
module _ (premises : List (List Lit)) (once : All HasNoTwice premises) (held : List Lit) (l : Lit) (losing : List ℕ) (complete : (k : ℕ) → k < length premises → Contains (get_or premises k []) (lit_complement l) → Contains losing k) where
  unseen_then : (seen : List Lit) (k : ℕ) → k < length premises → unseen seen (get_or premises k []) ≤ unseen (seen ++ l ∷ []) (get_or premises k []) + times k losing
  unseen_then seen k lt = elim (is_in (get_or premises k []) (lit_complement l)) [
    | inl i ↦
        let one = lose_one seen l (get_or premises k []) (once k [] lt) in
        let there = times_there k losing (complete k lt i) in
        omega (arith, one, there)
    | inr o ↦ let none = lose_none seen l (get_or premises k []) o in omega (arith, none)
  ]

  pub loses_all : (seen : List Lit) (left : List ℕ) → AreTracked (length premises) seen [] premises held left → AreTracked (length premises) (seen ++ l ∷ []) losing premises held left
  loses_all seen left before k lt = elim (before k lt) [
    | inl t ↦ inl t
    | inr h ↦ inr (h.0, (let u = unseen_then seen k lt in omega (arith, h.1, u)))
  ]

-- where all that holds was taken out
pub inert : (premises : List (List Lit)) → All HasNoTwice premises → (seen held : List Lit) (left : List ℕ) → seen ≡ held → AreTracked (length premises) seen [] premises held left → (c : List Lit) → Contains premises c → PropagatesNothing held c
inert premises once seen held left e all c i = subst (λ (x : List Lit). PropagatesNothing held x) (get_or_default premises i.0 [] c i.1 ∙ i.2) (elim (all i.0 i.1) [
  | inl t ↦ inl t
  | inr h ↦ inr (counted_two held (get_or premises i.0 []) (once i.0 [] i.1) (subst (λ (s : List Lit). 2 ≤ unseen s (get_or premises i.0 [])) e (omega (arith, h.0, h.1))))
])
