-- From premise to premise, and from literal to literal.
use Rattle.std.proofs.Common.{◌≡◌, ℕ, ◌+◌, ◌-◌, ◌<◌, ◌≤◌, List, [], ◌∷◌, ◌++◌, length, get_or, set, take, drop, Contains, All, sym, ap, ◌∙◌, subst, arith}
use Rattle.std.specs.Prelude.{Vec}
use Rattle.std.specs.declared.alloc.Global.{Global}
use Rattle.std.proofs.lemmas.List.{get_or-map, length-map, length_push, drop_more, drop_all, take_all, take-append-le, length-append}
use Rattle.spec_proofs.specs.Resolution.{IsWithin}
use Rattle.term_core.specs.declared.ids.Lit.{Lit}
use Rattle.clause_literals.specs.declared.occurrences.Occurrences.{Occurrences}
use Rattle.clause_literals.specs.Literals.{lit_complement, lists, HasNoTwice, IsConsistent}
use Rattle.clause_literals.specs.Occurring.{OccursIn, IsIndexOf}
use Rattle.clause_literals.specs.Statuses.{IsFalsified}
use Rattle.clause_literals.specs.Propagation.{LeadsToConflict, untouched, Advances, AreTracked, TakesUp, BeginsPropagation, Loses, HasPropagatedAll}
use Rattle.clause_literals.proofs.Advancing.{advances_none, advances_by, advances_on, held_on, refuted_by, refuted_on}
use Rattle.clause_literals.proofs.Tracking.{begins_more, loses_one, within_take, loses_all, inert}
use Rattle.clause_literals.proofs.Start.{taken_more}

abbrev to_items : Vec Lit Global → List Lit
to_items w = w.items

-- a premise, by its number
module _ (vs : List (Vec Lit Global)) (i : ℕ) (v : Vec Lit Global) (lt : i < length vs) (e : v ≡ get_or vs i v) where
  pub item : get_or (lists vs) i [] ≡ v.items
  item = get_or-map to_items vs i v [] lt ∙ ap to_items (sym e)

  pub item_in : Contains (lists vs) v.items
  item_in = (i, rw length-map lt, get_or-map to_items vs i v v.items lt ∙ ap to_items (sym e))

-- the first i premises were taken up
pub record HasBegun (premises : List (List Lit)) (first held : List Lit) (left : List ℕ) (i : ℕ) : Type 0 where
  pub advances : Advances premises first held
  pub counted : length left ≡ i
  pub tracked : AreTracked i [] [] premises held left

pub begun_none : (premises : List (List Lit)) (held : List Lit) (left : List ℕ) → left ≡ [] → HasBegun premises held held left 0
begun_none premises held left e = record {
  advances = advances_none premises held;
  counted = ap length e;
  tracked = λ k lt. absurd (omega (arith, lt));
}

pub begun_more : (vs : List (Vec Lit Global)) (i : ℕ) (v : Vec Lit Global) → i < length vs → v ≡ get_or vs i v
    → (first held new : List Lit) (left after : List ℕ) (count n : ℕ) → count ≡ length v.items
    → HasBegun (lists vs) first held left i → TakesUp v.items held new count n → after ≡ left ++ n ∷ [] → HasBegun (lists vs) first new after (i + 1)
begun_more vs i v lt e first held new left after count n counted h t pushed =
    let here = item vs i v lt e in
    let a = advances_by (lists vs) held new v.items (item_in vs i v lt e) t.follows in
    let u : TakesUp v.items held new (length v.items) n = subst (λ x. TakesUp v.items held new x n) counted t in
    let w : TakesUp (get_or (lists vs) i []) held new (length (get_or (lists vs) i [])) n = subst (λ (c : List Lit). TakesUp c held new (length c) n) (sym here) u in
    record {
      advances = advances_on (lists vs) first held new h.advances a;
      counted = ap length pushed ∙ length_push left n ∙ ap (λ x. x + 1) h.counted;
      tracked = subst (λ (ls : List ℕ). AreTracked (i + 1) [] [] (lists vs) new ls) (sym pushed) (begins_more (lists vs) held new left i n a h.counted w h.tracked);
    }

-- a false one
pub refuted_here : (vs : List (Vec Lit Global)) (i : ℕ) (v : Vec Lit Global) → i < length vs → v ≡ get_or vs i v
    → (first held : List Lit) → Advances (lists vs) first held → IsFalsified held v.items → LeadsToConflict (lists vs) first
refuted_here vs i v lt e first held a f = refuted_on (lists vs) first held a (refuted_by (lists vs) held v.items (item_in vs i v lt e) f)

pub begun_all : (vs : List (Vec Lit Global)) (i : ℕ) → i ≡ length vs → (first held : List Lit) (left : List ℕ) → HasBegun (lists vs) first held left i → BeginsPropagation (lists vs) first held left
begun_all vs i e first held left h =
    let n : i ≡ length (lists vs) = rw length-map e in
    record {
      advances = h.advances;
      counted = h.counted ∙ n;
      tracked = subst (λ x. AreTracked x [] [] (lists vs) held left) n h.tracked;
    }

-- those of the numbers up to here have lost a literal
pub record IsLosing (premises : List (List Lit)) (losing : List ℕ) (first held : List Lit) (before left : List ℕ) (rest : List ℕ) : Type 0 where
  pub advances : Advances premises first held
  pub tracked : (seen : List Lit) → IsWithin seen first → AreTracked (length premises) seen losing premises first before → AreTracked (length premises) seen rest premises held left

pub losing_none : (premises : List (List Lit)) (losing : List ℕ) (held : List Lit) (left : List ℕ) → IsLosing premises losing held held left left losing
losing_none premises losing held left = record { advances = advances_none premises held; tracked = λ seen within t. t }

pub losing_more : (vs : List (Vec Lit Global)) (number : ℕ) (v : Vec Lit Global) → number < length vs → v ≡ get_or vs number v
    → (losing : List ℕ) (i : ℕ) → i < length losing → number ≡ get_or losing i 0
    → (first held new : List Lit) (before left : List ℕ) (count n : ℕ) → length left ≡ length vs → count ≡ get_or left number 0 - 1
    → IsLosing (lists vs) losing first held before left (drop i losing) → TakesUp v.items held new count n
    → IsLosing (lists vs) losing first new before (set left number n) (drop (i + 1) losing)
losing_more vs number v lt e losing i here is first held new before left count n long counted h t =
    let a = advances_by (lists vs) held new v.items (item_in vs number v lt e) t.follows in
    let u : TakesUp v.items held new (get_or left number 0 - 1) n = subst (λ x. TakesUp v.items held new x n) counted t in
    let w : TakesUp (get_or (lists vs) number []) held new (get_or left number 0 - 1) n = subst (λ (c : List Lit). TakesUp c held new (get_or left number 0 - 1) n) (sym (item vs number v lt e)) u in
    let next : drop i losing ≡ number ∷ drop (i + 1) losing = drop_more losing i 0 here ∙ ap (λ x. x ∷ drop (i + 1) losing) (sym is) in
    record {
      advances = advances_on (lists vs) first held new h.advances a;
      tracked = λ seen within before_all. loses_one (length (lists vs)) (lists vs) seen held new left number n (drop (i + 1) losing) (omega (arith, lt, long)) (λ m j. held_on (lists vs) first held h.advances m (within m j)) (held_on (lists vs) held new a) w (subst (λ (js : List ℕ). AreTracked (length (lists vs)) seen js (lists vs) held left) next (h.tracked seen within before_all));
    }

pub losing_all : (premises : List (List Lit)) (losing : List ℕ) (i : ℕ) → i ≡ length losing → (first held : List Lit) (before left : List ℕ) → IsLosing premises losing first held before left (drop i losing) → Loses premises losing first held before left
losing_all premises losing i e first held before left h = record {
  advances = h.advances;
  tracked = λ seen within t. subst (λ (js : List ℕ). AreTracked (length premises) seen js premises held left) (drop_all i losing (omega (arith, e))) (h.tracked seen within t);
}

-- so many of the literals that hold were taken out
pub record IsGoing (premises : List (List Lit)) (first held : List Lit) (left : List ℕ) (done : ℕ) : Type 0 where
  pub within : done ≤ length held
  pub advances : Advances premises first held
  pub tracked : AreTracked (length premises) (take done held) [] premises held left

pub going_none : (premises : List (List Lit)) (held : List Lit) (left : List ℕ) → AreTracked (length premises) [] [] premises held left → IsGoing premises held held left 0
going_none premises held left t = record { within = omega arith; advances = advances_none premises held; tracked = t }

pub going_more : (premises : List (List Lit)) → All HasNoTwice premises → (w : Occurrences) → IsIndexOf w premises
    → (first held new : List Lit) (left after : List ℕ) (done : ℕ) (l : Lit) (losing : List ℕ) → done < length held → l ≡ get_or held done l
    → ((k : ℕ) → OccursIn w (lit_complement l) k → Contains losing k)
    → IsGoing premises first held left done → Loses premises losing held new left after → IsGoing premises first new after (done + 1)
going_more premises once w index first held new left after done l losing lt is complete h a =
    let more : take (done + 1) held ≡ take done held ++ l ∷ [] = taken_more held done l lt is in
    let lost : AreTracked (length premises) (take (done + 1) held) losing premises held left = subst (λ (s : List Lit). AreTracked (length premises) s losing premises held left) (sym more) (loses_all premises once held l losing (λ k kt i. complete k (index.complete k (lit_complement l) kt i)) (take done held) left h.tracked) in
    let same : take (done + 1) held ≡ take (done + 1) new = sym (ap (take (done + 1)) a.advances.is ∙ take-append-le (done + 1) held a.advances.added (omega (arith, lt))) in
    record {
      within = omega (arith, lt, ap length a.advances.is, length-append held a.advances.added);
      advances = advances_on premises first held new h.advances a.advances;
      tracked = subst (λ (s : List Lit). AreTracked (length premises) s [] premises new after) same (a.tracked (take (done + 1) held) (within_take held (done + 1)) lost);
    }

-- each literal that is taken out leaves fewer to take out, or to come
pub going_smaller : (premises : List (List Lit)) (first held new : List Lit) (left : List ℕ) (done : ℕ) → IsConsistent first → IsGoing premises first held left done → done < length held → Advances premises held new
    → (length new + untouched new premises) - (done + 1) < (length held + untouched held premises) - done
going_smaller premises first held new left done ok h lt a = let f = a.fewer (h.advances.consistent ok) in omega (arith, f, lt)

pub going_all : (premises : List (List Lit)) → All HasNoTwice premises → (first held : List Lit) (left : List ℕ) (done : ℕ) → length held ≤ done → IsGoing premises first held left done → HasPropagatedAll premises first held
going_all premises once first held left done all h = record {
  advances = h.advances;
  inert = inert premises once (take done held) held left (take_all done held all) h.tracked;
}

-- what taking up all premises gives of their own numbers
pub begun_counted : (vs : List (Vec Lit Global)) (old held : List Lit) (left after : List ℕ) → after ≡ left → BeginsPropagation (lists vs) old held left → length after ≡ length vs
begun_counted vs old held left after e h = ap length e ∙ h.counted ∙ length-map vs to_items

pub begun_tracked : (vs : List (Vec Lit Global)) (old held : List Lit) (left after : List ℕ) → after ≡ left → BeginsPropagation (lists vs) old held left → AreTracked (length vs) [] [] (lists vs) held after
begun_tracked vs old held left after e h = subst (λ (ls : List ℕ). AreTracked (length vs) [] [] (lists vs) held ls) (sym e) (subst (λ n. AreTracked n [] [] (lists vs) held left) (length-map vs to_items) h.tracked)
