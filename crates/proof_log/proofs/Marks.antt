-- Marks of numbers.
use Rattle.std.proofs.Common.{inl, inr, ◌⊎◌, ◌≡◌, ℕ, suc, ◌+◌, ◌<◌, ◌≤◌, List, [], ◌∷◌, ◌++◌, length, take, set, get_or, All, Contains, refl, sym, ap, ◌∙◌, arith, subst}
use Rattle.std.proofs.lemmas.Bool.{cases_lt, cases_eq}
use Rattle.std.proofs.lemmas.List.{get_or-set_same, get_or-set_other, length-set, take_more, take_all}
use Rattle.std.proofs.lemmas.List.Elements.{Contains-append_left, Contains-append_cases, Contains-push}
use Rattle.proof_log.specs.declared.premises.StepId.{StepId}
use Rattle.proof_log.specs.Logs.{Logged, premises_in, logged_at, AreEarlier}
use Rattle.proof_log.specs.Reaches.{RestsOn, itself, by_premise}
use Rattle.proof_log.specs.Keeping.{step_of}
use Rattle.proof_log.specs.Moving.{IsMarked, Marks, Comes, IsClosedFrom}

-- numbers that are the same are those of one step
pub same_step : (s p : StepId) → s.0 ≡ p.0 → s ≡ p
same_step s p e = ap step_of e

pub set_here : (xs : List ℕ) (p x : ℕ) → p < length xs → get_or (set xs p x) p 0 ≡ x
set_here xs p x lt = get_or-set_same xs p x 0 lt

pub set_there : (xs : List ℕ) (p x n : ℕ) → (n ≡ p → ⊥) → get_or (set xs p x) n 0 ≡ get_or xs n 0
set_there xs p x n differs = get_or-set_other xs p n x 0 differs

-- Numbers of a list came to be marked, from one on.
pub record IsMarking (old now : List ℕ) (from : ℕ) (xs : List StepId) : Type 0 where
  pub size : length now ≡ length old
  pub kept : (s : StepId) → IsMarked old s → IsMarked now s
  pub marked : (s : StepId) → IsMarked now s → IsMarked old s ⊎ Contains xs s
  pub each : (s : StepId) → from ≤ s.0 → Contains xs s → IsMarked now s

pub marking_none : (old : List ℕ) (from : ℕ) → IsMarking old old from []
marking_none old from = record { size = refl; kept = λ s h. h; marked = λ s h. inl h; each = λ s le i. absurd (omega (arith, i.1)) }

-- a number of a list of one more
last_of : (xs : List StepId) (p s : StepId) → Contains (xs ++ p ∷ []) s → Contains xs s ⊎ (s ≡ p)
last_of xs p s i = elim (Contains-append_cases xs (p ∷ []) s i) as (λ _. Contains xs s ⊎ (s ≡ p)) [
  | inl was ↦ inl was
  | inr is ↦ inr (let first : is.0 ≡ 0 = omega (arith, is.1) in sym (ap (λ k. get_or (p ∷ []) k s) (sym first) ∙ is.2))
]

-- the number that is set is marked, and the others are as they were
set_marked : (now : List ℕ) (p s : StepId) → p.0 < length now → s.0 ≡ p.0 → IsMarked (set now p.0 1) s
set_marked now p s lt e = ap (λ k. get_or (set now p.0 1) k 0) e ∙ set_here now p.0 1 lt

marking_in : (old now : List ℕ) (from : ℕ) (xs : List StepId) (p : StepId) → p.0 < length now → IsMarking old now from xs → IsMarking old (set now p.0 1) from (xs ++ p ∷ [])
marking_in old now from xs p lt h =
    let stays : (s : StepId) → IsMarked now s → IsMarked (set now p.0 1) s = λ s m. elim (cases_eq s.0 p.0) as (λ _. IsMarked (set now p.0 1) s) [
      | inl e ↦ set_marked now p s lt e
      | inr differs ↦ set_there now p.0 1 s.0 differs ∙ m
    ] in
    record {
      size = length-set now p.0 1 ∙ h.size;
      kept = λ s m. stays s (h.kept s m);
      marked = λ s m. elim (cases_eq s.0 p.0) as (λ _. IsMarked old s ⊎ Contains (xs ++ p ∷ []) s) [
        | inl e ↦ inr (subst (Contains (xs ++ p ∷ [])) (sym (same_step s p e)) (Contains-push xs p))
        | inr differs ↦ elim (h.marked s (sym (set_there now p.0 1 s.0 differs) ∙ m)) as (λ _. IsMarked old s ⊎ Contains (xs ++ p ∷ []) s) [
          | inl was ↦ inl was
          | inr i ↦ inr (Contains-append_left xs (p ∷ []) s i)
        ]
      ];
      each = λ s le i. elim (last_of xs p s i) as (λ _. IsMarked (set now p.0 1) s) [
        | inl was ↦ stays s (h.each s le was)
        | inr e ↦ set_marked now p s lt (ap (λ (x : StepId). x.0) e)
      ];
    }

marking_out : (old now : List ℕ) (from : ℕ) (xs : List StepId) (p : StepId) → p.0 < from → IsMarking old now from xs → IsMarking old now from (xs ++ p ∷ [])
marking_out old now from xs p below h = record {
  size = h.size;
  kept = h.kept;
  marked = λ s m. elim (h.marked s m) as (λ _. IsMarked old s ⊎ Contains (xs ++ p ∷ []) s) [
    | inl was ↦ inl was
    | inr i ↦ inr (Contains-append_left xs (p ∷ []) s i)
  ];
  each = λ s le i. elim (last_of xs p s i) as (λ _. IsMarked now s) [
    | inl was ↦ h.each s le was
    | inr e ↦ absurd (let f : s.0 ≡ p.0 = ap (λ (x : StepId). x.0) e in omega (arith, le, below, f))
  ];
}

-- a number more of a list
pub marking_more : (old now next : List ℕ) (from i : ℕ) (d : StepId) (xs : List StepId) → i < length xs → All (λ (p : StepId). p.0 < length old) xs → IsMarking old now from (take i xs)
    → Marks now from (get_or xs i d) next → IsMarking old next from (take (i + 1) xs)
marking_more old now next from i d xs lt there h m =
    let p = get_or xs i d in
    let low : p.0 < length now = subst (λ n. p.0 < n) (sym h.size) (there i d lt) in
    subst (IsMarking old next from) (sym (take_more xs i d lt)) (elim m as (λ _. IsMarking old next from (take i xs ++ p ∷ [])) [
      | inl below ↦ subst (λ (k : List ℕ). IsMarking old k from (take i xs ++ p ∷ [])) (sym below.1) (marking_out old now from (take i xs) p below.0 h)
      | inr above ↦ subst (λ (k : List ℕ). IsMarking old k from (take i xs ++ p ∷ [])) (sym above.1) (marking_in old now from (take i xs) p low h)
    ])

pub marking_all : (old now : List ℕ) (from i : ℕ) (xs : List StepId) → length xs ≤ i → IsMarking old now from (take i xs) → IsMarking old now from xs
marking_all old now from i xs le h = subst (IsMarking old now from) (take_all i xs le) h

-- what is a premise of what a clause rests on, it rests on
pub rests_more : (log : List Logged) (m k s : StepId) → RestsOn log m k → Contains (premises_in (logged_at log k)) s → RestsOn log m s
rests_more log _ _ s (itself k) has = by_premise k s s has (itself s)
rests_more log _ _ s (by_premise m p k i rests) has = by_premise m p s i (rests_more log p k s rests has)

-- What is marked in the midst of going down.
pub record IsGoingDown (log : List Logged) (old now : List ℕ) (from k : ℕ) : Type 0 where
  pub size : length now ≡ length old
  pub kept : (s : StepId) → IsMarked old s → IsMarked now s
  pub comes : (s : StepId) → IsMarked now s → Comes log old s
  pub closed : IsClosedFrom log now from k
  pub within : k ≤ length log

pub down_begun : (log : List Logged) (old : List ℕ) (from : ℕ) → IsGoingDown log old old from (length log)
down_begun log old from = record {
  size = refl;
  kept = λ s m. m;
  comes = λ s m. (s, m, itself s);
  closed = λ s p le lt m i up. absurd (omega (arith, le, lt));
  within = omega arith;
}

-- a number that is not below k and not k is above
next_above : (n k : ℕ) → k ≤ n → (n ≡ k → ⊥) → suc k ≤ n
next_above n k le differs = elim (cases_lt k n) as (λ _. suc k ≤ n) [
  | inl below ↦ omega (arith, below)
  | inr above ↦ absurd (differs (omega (arith, above, le)))
]

pub down_unmarked : (log : List Logged) (old now : List ℕ) (from k : ℕ) → (IsMarked now (step_of k) → ⊥) → IsGoingDown log old now from (suc k) → IsGoingDown log old now from k
down_unmarked log old now from k not_marked h = record {
  size = h.size;
  kept = h.kept;
  comes = h.comes;
  within = omega (arith, h.within);
  closed = λ s p le lt m i up. elim (cases_eq s.0 k) as (λ _. IsMarked now p) [
    | inl e ↦ absurd (not_marked (subst (IsMarked now) (same_step s (step_of k) e) m))
    | inr differs ↦ h.closed s p (next_above s.0 k le differs) lt m i up
  ];
}

pub down_marked : (log : List Logged) (old now next : List ℕ) (from k : ℕ) → AreEarlier log → k < length log → IsMarked now (step_of k) → IsGoingDown log old now from (suc k)
    → IsMarking now next from (premises_in (logged_at log (step_of k))) → IsGoingDown log old next from k
down_marked log old now next from k earlier here marked h g = record {
  size = g.size ∙ h.size;
  within = omega (arith, here);
  kept = λ s m. g.kept s (h.kept s m);
  comes = λ s m. elim (g.marked s m) as (λ _. Comes log old s) [
    | inl was ↦ h.comes s was
    | inr i ↦ let c = h.comes (step_of k) marked in (c.0, c.1, rests_more log c.0 (step_of k) s c.2 i)
  ];
  closed = λ s p le lt m i up. elim (cases_eq s.0 k) as (λ _. IsMarked next p) [
    | inl e ↦ g.each p up (subst (λ (x : StepId). Contains (premises_in (logged_at log x)) p) (same_step s (step_of k) e) i)
    | inr differs ↦
        let above : suc k ≤ s.0 = next_above s.0 k le differs in
        elim (g.marked s m) as (λ _. IsMarked next p) [
          | inl was ↦ g.kept p (h.closed s p above lt was i up)
          | inr j ↦ absurd (let low : s.0 < k = subst (λ (x : StepId). x.0 < k) j.2 (earlier k here j.0 s j.1) in omega (arith, low, above))
        ]
  ];
}
