-- Levels of numbers, and scopes by reaches.
use Rattle.std.proofs.Common.{if◌then◌else◌, ltb, inl, inr, ◌⊎◌, ◌≡◌, ℕ, zero, suc, max, true, false, Bool, ◌<◌, ◌≤◌, List, [], ◌∷◌, length, get_or, refl, sym, ap, ◌∙◌, arith, subst}
use Rattle.std.proofs.lemmas.Bool.{cases_lt, ltb-true, lt-ltb}
use Rattle.std.proofs.lemmas.List.{length-map, get_or-map}
use Rattle.std.proofs.Math.Nat.{le-max_left, le-max_right, max-le, max-eq_left, max-eq_right, le_trans}
use Rattle.proof_log.specs.declared.premises.StepId.{StepId}
use Rattle.proof_log.specs.Logs.{Logged, AreEarlier}
use Rattle.proof_log.specs.Reaches.{ReachView, reach_at}
use Rattle.proof_log.specs.Levels.{LevelMark, no_level, level_at, AreRising, terms_of, steps_of, ReachesTerm, ReachesAssume, IsScope, level_below, scope_by, IsReachWithin}
use Rattle.proof_log.proofs.Scopes.{terms_within, assumes_within, terms_reached, assumes_reached}

-- a number that is below the length of a level is of none above
pub level_le : (ms : List ℕ) (k n : ℕ) → k < length ms → n < get_or ms k 0 → level_at ms n ≤ k
level_le [] k n lt below = absurd (omega (arith, lt))
level_le (m ∷ ms) zero n lt below = subst (λ b. (if b then 0 else suc (level_at ms n)) ≤ 0) (sym (lt-ltb n m below)) (omega arith)
level_le (m ∷ ms) (suc k) n lt below = go (ltb n m) (level_le ms k n (omega (arith, lt)) below)
  where
    go : (b : Bool) → level_at ms n ≤ k → (if b then 0 else suc (level_at ms n)) ≤ suc k
    go true h = omega arith
    go false h = omega (arith, h)

pub rising_rest : (m : ℕ) (ms : List ℕ) → AreRising (m ∷ ms) → AreRising ms
rising_rest m ms h i j lt there = h (suc i) (suc j) (omega (arith, lt)) (omega (arith, there))

-- and the other way round
pub level_lt : (ms : List ℕ) → AreRising ms → (k n : ℕ) → k < length ms → level_at ms n ≤ k → n < get_or ms k 0
level_lt [] rising k n lt h = absurd (omega (arith, lt))
level_lt (m ∷ ms) rising k n lt h = go (λ j there le. level_lt ms (rising_rest m ms rising) j n there le) (ltb n m) refl h
  where
    first : (j : ℕ) → j < suc (length ms) → n < m → n < get_or (m ∷ ms) j 0
    first zero there below = below
    first (suc j) there below = let up : m ≤ get_or ms j 0 = rising 0 (suc j) (omega arith) there in omega (arith, below, up)

    later : ((j : ℕ) → j < length ms → level_at ms n ≤ j → n < get_or ms j 0) → (j : ℕ) → j < suc (length ms) → suc (level_at ms n) ≤ j → n < get_or (m ∷ ms) j 0
    later rest zero there le = absurd (omega (arith, le))
    later rest (suc j) there le = rest j (omega (arith, there)) (omega (arith, le))

    go : ((j : ℕ) → j < length ms → level_at ms n ≤ j → n < get_or ms j 0) → (b : Bool) → ltb n m ≡ b → (if b then 0 else suc (level_at ms n)) ≤ k → n < get_or (m ∷ ms) k 0
    go rest true is le = first k lt (ltb-true n m is)
    go rest false is le = later rest k lt le

-- a later number is of no lower level
pub level_up : (ms : List ℕ) (n p : ℕ) → n ≤ p → level_at ms n ≤ level_at ms p
level_up [] n p le = omega arith
level_up (m ∷ ms) n p le = go (level_up ms n p le) (ltb n m) (ltb p m) refl refl
  where
    go : level_at ms n ≤ level_at ms p → (a b : Bool) → ltb n m ≡ a → ltb p m ≡ b → (if a then 0 else suc (level_at ms n)) ≤ (if b then 0 else suc (level_at ms p))
    go rest true b is_a is_b = omega arith
    go rest false true is_a is_b = absurd (let low : n < m = omega (arith, le, ltb-true p m is_b) in let e : true ≡ false = sym (lt-ltb n m low) ∙ is_a in cc)
    go rest false false is_a is_b = omega (arith, rest)

-- what is below a length is of levels as these say
pub below_le : (ms : List ℕ) (k r : ℕ) → k < length ms → r ≤ get_or ms k 0 → level_below ms r ≤ k
below_le ms k zero lt le = omega arith
below_le ms k (suc n) lt le = level_le ms k n lt (omega (arith, le))

pub below_lt : (ms : List ℕ) → AreRising ms → (k r : ℕ) → k < length ms → level_below ms r ≤ k → r ≤ get_or ms k 0
below_lt ms rising k zero lt le = omega arith
below_lt ms rising k (suc n) lt le = omega (arith, level_lt ms rising k n lt le)

pub below_over : (ms : List ℕ) (n r : ℕ) → n < r → level_at ms n ≤ level_below ms r
below_over ms n zero lt = absurd (omega (arith, lt))
below_over ms n (suc r) lt = level_up ms n r (omega (arith, lt))

module _ (ls : List LevelMark) (k : ℕ) (r : ReachView) (lt : k < length ls) where
  at_terms : get_or (terms_of ls) k 0 ≡ (get_or ls k no_level).terms
  at_terms = get_or-map (λ (l : LevelMark). l.terms) ls k no_level 0 lt

  at_steps : get_or (steps_of ls) k 0 ≡ (get_or ls k no_level).steps
  at_steps = get_or-map (λ (l : LevelMark). l.steps) ls k no_level 0 lt

  pub scope_within : AreRising (terms_of ls) → AreRising (steps_of ls) → scope_by ls r ≤ k → IsReachWithin (get_or ls k no_level) r
  scope_within rt rs le =
      let one : level_below (terms_of ls) r.terms ≤ k = le_trans (le-max_left (level_below (terms_of ls) r.terms) (level_below (steps_of ls) r.assumes)) le in
      let other : level_below (steps_of ls) r.assumes ≤ k = le_trans (le-max_right (level_below (terms_of ls) r.terms) (level_below (steps_of ls) r.assumes)) le in
      let n : k < length (terms_of ls) = omega (arith, lt, length-map ls (λ (l : LevelMark). l.terms)) in
      let m : k < length (steps_of ls) = omega (arith, lt, length-map ls (λ (l : LevelMark). l.steps)) in (
        subst (λ x. r.terms ≤ x) at_terms (below_lt (terms_of ls) rt k r.terms n one),
        subst (λ x. r.assumes ≤ x) at_steps (below_lt (steps_of ls) rs k r.assumes m other),
      )

  pub within_scope : IsReachWithin (get_or ls k no_level) r → scope_by ls r ≤ k
  within_scope h =
      let n : k < length (terms_of ls) = omega (arith, lt, length-map ls (λ (l : LevelMark). l.terms)) in
      let m : k < length (steps_of ls) = omega (arith, lt, length-map ls (λ (l : LevelMark). l.steps)) in
      max-le (below_le (terms_of ls) k r.terms n (subst (λ x. r.terms ≤ x) (sym at_terms) h.0)) (below_le (steps_of ls) k r.assumes m (subst (λ x. r.assumes ≤ x) (sym at_steps) h.1))

module _ (ls : List LevelMark) (log : List Logged) (s : StepId) (earlier : AreEarlier log) (lt : s.0 < length log) where
  abbrev T : ℕ
  T = level_below (terms_of ls) (reach_at log s).terms

  abbrev S : ℕ
  S = level_below (steps_of ls) (reach_at log s).assumes

  abbrev Reached : ℕ → Type 0
  Reached scope = (scope ≡ 0) ⊎ (ReachesTerm ls log s scope ⊎ ReachesAssume ls log s scope)

  by_terms : Reached T
  by_terms = elim (terms_reached log earlier (suc s.0) s (omega arith) lt) as (λ _. Reached T) [
    | inl none ↦ inl (ap (level_below (terms_of ls)) none)
    | inr h ↦ inr (inl (h.number, (h.term, h.rests, h.there, ap (level_below (terms_of ls)) h.is)))
  ]

  by_assumes : Reached S
  by_assumes = elim (assumes_reached log earlier (suc s.0) s (omega arith) lt) as (λ _. Reached S) [
    | inl none ↦ inl (ap (level_below (steps_of ls)) none)
    | inr h ↦ inr (inr (h.number, (h.term, h.rests, h.there, ap (level_below (steps_of ls)) h.is)))
  ]

  met : Reached (max T S)
  met = elim (cases_lt T S) as (λ _. Reached (max T S)) [
    | inl below ↦ subst Reached (sym (max-eq_right (omega (arith, below)))) by_assumes
    | inr above ↦ subst Reached (sym (max-eq_left (omega (arith, above)))) by_terms
  ]

  pub scope_is : IsScope ls log s (scope_by ls (reach_at log s))
  scope_is = record {
    terms = λ m id rests has. le_trans (below_over (terms_of ls) id.0 (reach_at log s).terms (terms_within log earlier s m id lt rests has)) (le-max_left T S);
    assumes = λ m id rests is. le_trans (below_over (steps_of ls) m.0 (reach_at log s).assumes (assumes_within log earlier s m id lt rests is)) (le-max_right T S);
    reached = met;
  }
