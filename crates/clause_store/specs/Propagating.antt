-- What propagation does to a trail, and what it comes to.
use Rattle.std.specs.Prelude.{◌≡◌, ◌≢◌, ◌<◌, ℕ, List, [], ◌++◌, length, map, take, get_or, Contains, Option, Some, None}
use Rattle.term_core.specs.declared.ids.Lit.{Lit}
use Rattle.clause_literals.specs.Literals.{lit_complement}
use Rattle.clause_literals.specs.Statuses.{IsFalsified, PropagatesNothing}
use Rattle.proof_log.specs.declared.premises.StepId.{StepId}
use Rattle.sat_trail.specs.Trails.{TrailView, no_lit}
use Rattle.clause_store.specs.Stores.{StoreView, no_step}
use Rattle.clause_store.specs.declared.propagate.Propagation.{Propagation}
use Rattle.clause_store.specs.declared.propagate.Propagation.TheVariants.{Quiet, Clash}

-- A clause has the literal and its others are false, and its step is the reason.
pub record IsImplied (s : StoreView) (held : List Lit) (l : Lit) (reason : Option ℕ) : Type 0 where
  -- the number of the clause
  pub number : ℕ
  pub there : number < length s.clauses
  -- the reason is the number of its step
  pub reason_is : reason ≡ Some (get_or s.steps number no_step).0
  -- it has the literal
  pub has_it : Contains (get_or s.clauses number []) l
  -- and its others are false
  pub others_false : (m : Lit) → Contains (get_or s.clauses number []) m → m ≢ l → Contains held (lit_complement m)

-- Literals are implied, each by a clause whose others are false by earlier ones.
pub record AddsImplied (s : StoreView) (old new : TrailView) : Type 0 where
  -- the literals
  pub more : List Lit
  -- their reasons
  pub why : List (Option ℕ)
  -- they come after those that were there
  pub literals : new.literals ≡ old.literals ++ more
  -- with these reasons
  pub reasons : new.reasons ≡ old.reasons ++ why
  -- each has one
  pub paired : length why ≡ length more
  -- all are of the level
  pub levels : new.levels ≡ old.levels ++ map (λ _. old.level) more
  pub level : new.level ≡ old.level
  -- each is implied by those before it
  pub implied : (k : ℕ) → k < length more
      → IsImplied s (old.literals ++ take k more) (get_or more k no_lit) (get_or why k None)
  -- there are as many variables
  pub vars : new.vars ≡ old.vars

-- literals are implied, and none is marked as propagated
abbrev pub Advances : StoreView → TrailView → TrailView → Type 0
Advances s old new = AddsImplied s old new × (new.propagated ≡ old.propagated)

-- Each reason along the trail is that of a clause whose others are false by earlier literals.
pub record AreImplied (s : StoreView) (t : TrailView) : Type 0 where
  -- each literal has a reason or none
  pub paired : length t.reasons ≡ length t.literals
  -- where it has one, it is implied by those before it
  pub implied : (k r : ℕ) → k < length t.literals → get_or t.reasons k None ≡ Some r
      → IsImplied s (take k t.literals) (get_or t.literals k no_lit) (Some r)

-- The clause of a step is false.
pub record IsClash (s : StoreView) (held : List Lit) (step : StepId) : Type 0 where
  -- the number of the clause
  pub number : ℕ
  pub there : number < length s.clauses
  -- the step is its
  pub step_is : step ≡ get_or s.steps number no_step
  -- all of its literals are false
  pub fails : IsFalsified held (get_or s.clauses number [])

-- no clause is false or unit: of each a literal holds, or two different ones are not false
abbrev pub IsPropagated : List (List Lit) → List Lit → Type 0
IsPropagated clauses held = (c : List Lit) → Contains clauses c → PropagatesNothing held c

-- what propagation comes to: nothing more follows, or the clause of a step is false
abbrev pub EndsPropagation : StoreView → List Lit → Propagation → Type 0
EndsPropagation s held Quiet = IsPropagated s.clauses held
EndsPropagation s held (Clash step) = IsClash s held step
