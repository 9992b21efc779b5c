-- How unit propagation goes on, from premise to premise and from literal to literal.
use Rattle.std.specs.Prelude.{◌≡◌, ◌⊎◌, ◌+◌, ◌<◌, ◌≤◌, ◌==◌, ℕ, zero, suc, Bool, true, false, if◌then◌else◌, List, []}
use Rattle.std.specs.Prelude.{◌∷◌, ◌++◌, length, get_or, Contains}
use Rattle.std.specs.List.{list_any}
use Rattle.spec_proofs.specs.Resolution.{Derives, Conflicts, IsWithin}
use Rattle.term_core.specs.declared.ids.Lit.{Lit}
use Rattle.clause_literals.specs.Literals.{lit_complement, has, IsConsistent}
use Rattle.clause_literals.specs.Statuses.{IsUnit, IsSatisfied, PropagatesNothing}

-- all that is held follows from the start
abbrev pub IsDerived : List (List Lit) → List Lit → List Lit → Type 0
IsDerived premises start held = (l : Lit) → Contains held l → Derives lit_complement premises start l

-- what is held leads to a conflict
abbrev pub LeadsToConflict : List (List Lit) → List Lit → Type 0
LeadsToConflict premises held = (start : List Lit) → IsDerived premises start held
    → Conflicts lit_complement premises start

-- no conflict follows from anything that is held
abbrev pub IsUnrefuted : List (List Lit) → List Lit → Type 0
IsUnrefuted premises held = (start : List Lit) → IsWithin start held → Conflicts lit_complement premises start → ⊥

-- how many don't pass a test
abbrev pub failing : {X : Type 0} → (X → Bool) → List X → ℕ
failing p [] = zero
failing p (x ∷ xs) = if p x then failing p xs else suc (failing p xs)

-- how many clauses have no literal that holds
abbrev pub untouched : List Lit → List (List Lit) → ℕ
untouched held premises = failing (λ c. list_any (has held) c) premises

-- how many literals of the clause are not seen to be false
abbrev pub unseen : List Lit → List Lit → ℕ
unseen seen clause = failing (λ m. has seen (lit_complement m)) clause

-- how often a number is in a list
abbrev pub times : ℕ → List ℕ → ℕ
times k [] = zero
times k (j ∷ js) = if j == k then suc (times k js) else times k js

-- the clause gives its one open literal, or nothing
abbrev pub GivesUnit : List Lit → List Lit → List Lit → Type 0
GivesUnit clause old new = (new ≡ old) ⊎ ((l : Lit) × IsUnit old clause l × (new ≡ old ++ l ∷ []))

-- what is held grows by what follows, and each literal leaves fewer clauses untouched
pub record Advances (premises : List (List Lit)) (old new : List Lit) : Type 0 where
  pub added : List Lit
  pub is : new ≡ old ++ added
  pub derived : (start : List Lit) → IsDerived premises start old → IsDerived premises start new
  pub consistent : IsConsistent old → IsConsistent new
  pub fewer : IsConsistent old → length new + untouched new premises ≤ length old + untouched old premises

-- a literal of the clause holds, or no more are left than are unseen, with some more
abbrev pub IsBounded : List Lit → List Lit → ℕ → List Lit → ℕ → Type 0
IsBounded seen held more clause left = IsSatisfied held clause ⊎ (left ≤ unseen seen clause + more)

-- a literal of the clause holds, or two are left, and no more than are unseen, with some more
abbrev pub IsTracked : List Lit → List Lit → ℕ → List Lit → ℕ → Type 0
IsTracked seen held more clause left = IsSatisfied held clause ⊎ ((2 ≤ left) × (left ≤ unseen seen clause + more))

-- the first n clauses are tracked, where those of some numbers have still to lose a literal
abbrev pub AreTracked : ℕ → List Lit → List ℕ → List (List Lit) → List Lit → List ℕ → Type 0
AreTracked n seen losing premises held left = (k : ℕ) → k < n
    → IsTracked seen held (times k losing) (get_or premises k []) (get_or left k 0)

-- a premise goes from bounded to tracked
pub record TakesUp (clause old new : List Lit) (before after : ℕ) : Type 0 where
  pub follows : GivesUnit clause old new
  pub tracked : (seen : List Lit) (more : ℕ) → IsWithin seen old → IsBounded seen old more clause before
      → IsTracked seen new more clause after

-- each premise was taken up once
pub record BeginsPropagation (premises : List (List Lit)) (old new : List Lit) (left : List ℕ) : Type 0 where
  pub advances : Advances premises old new
  pub counted : length left ≡ length premises
  pub tracked : AreTracked (length premises) [] [] premises new left

-- those premises that lost a literal were taken up
pub record Loses (premises : List (List Lit)) (losing : List ℕ) (old new : List Lit) (before after : List ℕ) : Type
    0 where
  pub advances : Advances premises old new
  pub tracked : (seen : List Lit) → IsWithin seen old → AreTracked (length premises) seen losing premises old before
      → AreTracked (length premises) seen [] premises new after

-- nothing more follows
pub record HasPropagatedAll (premises : List (List Lit)) (old new : List Lit) : Type 0 where
  pub advances : Advances premises old new
  pub inert : (c : List Lit) → Contains premises c → PropagatesNothing new c

-- a premise comes to be false, or nothing more follows
abbrev pub Propagates : List (List Lit) → List Lit → List Lit → Bool → Type 0
Propagates premises old new true = LeadsToConflict premises old
Propagates premises old new false = HasPropagatedAll premises old new
