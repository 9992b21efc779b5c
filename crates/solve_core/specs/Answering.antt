-- What a search shows with its theories, from the beginning to an answer.
use Rattle.std.specs.Prelude.{◌≡◌, ◌↔◌, ℕ, true, List, [], length, map, All, Contains, Result, Ok, Err}
use Rattle.spec_numbers.specs.Fractions.{Fraction, IsReduced}
use Rattle.spec_sorts.specs.Terms.{Number, Term, sort_of}
use Rattle.spec_derivations.specs.Problems.{subterms_in}
use Rattle.spec_derivations.specs.Examples.{asserting, speaking}
use Rattle.spec_interfaces.specs.Interfaces.{IsInterfaceEquality}
use Rattle.no_memory.specs.declared.NoMemory.{NoMemory}
use Rattle.spec_sorts.specs.Literals.{Literal}
use Rattle.spec_equality.specs.Congruence.{IsFine}
use Rattle.spec_arithmetic.specs.Numbers.{number_at}
use Rattle.spec_valuations.specs.Classes.{class_in, AreShared}
use Rattle.spec_simplex.specs.Constraints.{HaveForms}
use Rattle.spec_simplex.specs.Points.{IsFeasible}
use Rattle.spec_simplex.specs.Numbers.{HoldsAt}
use Rattle.term_core.specs.declared.ids.TermId.{TermId}
use Rattle.term_core.specs.Tables.{TableView, clause_at}
use Rattle.sat_budget.specs.declared.limits.Stop.{Stop}
use Rattle.sat_budget.specs.declared.limits.Stop.TheVariants as stops
use Rattle.sat_budget.specs.declared.limits.Reason.TheVariants as reasons
use Rattle.sat_budget.specs.Budgets.{StopsBy}
use Rattle.proof_log.specs.Logs.{IsLogOf}
use Rattle.proof_log.specs.Theories.{TheoryView, literals_held}
use Rattle.congruence_closure.specs.Closure.{TellClasses}
use Rattle.congruence.specs.Views.{AreEqualBy}
use Rattle.simplex.specs.Checks.{KeepsBounds}
use Rattle.combined.specs.Views.{CombinedView}
use Rattle.search_loop.specs.declared.cdcl.Answer.{Answer}
use Rattle.search_loop.specs.declared.cdcl.Answer.TheVariants.{Unknown}
use Rattle.search_loop.specs.Rounds.{HasEvidence, IsLearning, HasMade}
use Rattle.search_loop.specs.Asking.{SearchState}

-- One of the terms is a number.
pub record HasNumber (ts : List Term) : Type 0 where
  -- the term
  pub term : Term
  pub there : Contains ts term
  -- its sort is Real
  pub number : sort_of term ≡ Number

-- Numbers of terms by which the literals of a theory hold, and classes of terms that it makes equal.
pub record HoldByNumbers (t : TableView) (ids : List TermId) (v : TheoryView) (classes : List ℕ)
    (xs : List Fraction) : Type 0 where
  -- the number of each term, in lowest terms
  pub number : Term → Fraction
  pub reduced : (u : Term) → IsReduced (number u)
  -- by these the literals hold
  pub hold : All (HoldsAt number) (literals_held t v)
  -- and these are the numbers of those terms, in their order
  pub are : xs ≡ map number (clause_at t ids)
  -- terms have one class exactly where the theory makes them equal
  pub tell : TellClasses (AreEqualBy t v) ids classes
  -- and there is one for each
  pub count : length classes ≡ length ids

-- The numbers and the classes agree on shared terms.
pub record HoldTogether (t : TableView) (ids : List TermId) (v : TheoryView) (classes : List ℕ)
    (xs : List Fraction) : Type 0 where
  -- the numbers and the classes
  pub values : HoldByNumbers t ids v classes xs
  -- the terms that both theories speak of
  pub shared : List Term
  pub shares : AreShared (clause_at t ids) shared
  -- each of them has the number of its head at its arguments' numbers
  pub heads : (u : Term) → Contains shared u → values.number u ≡ number_at values.number u
  -- two of them have one number exactly where they have one class
  pub agree : (u w : Term) → Contains shared u → Contains shared w
      → (values.number u ≡ values.number w) ↔ (class_in (clause_at t ids) classes u
      ≡ class_in (clause_at t ids) classes w)

-- both theories agree to literals over terms, and the values keep the bounds
abbrev pub AgreeBoth : List Term → List Literal → CombinedView → Type 0
AgreeBoth ts ls v = (IsFine ts ls × (v.congruence.now.saturated ≡ true))
    × (HaveForms ls × IsFeasible ls × KeepsBounds v.simplex)

-- An answer is shown of terms that are asserted, with some interface equalities, over a log that is right.
pub record IsAnswered (ts : List Term) (limit : ℕ) (s : SearchState) (a : Answer) : Type 0 where
  -- each step of the log is right
  pub right : IsLogOf s.table s.search.log
  -- the limit of the budget is this
  pub limit_is : s.search.budget.limit ≡ limit
  -- those equalities
  pub interface : List Term
  pub equalities : All (IsInterfaceEquality (subterms_in (asserting ts))) interface
  -- it shows what it should of the terms
  pub evidence : HasEvidence s.table (speaking ts interface) s.search.log [] s.search.budget a
  -- and so do the log and what was learned
  pub learning : IsLearning s.table (speaking ts interface) s.search.log [] a s.search.budget.learned
  -- the exchanges are those of the search
  pub exchanged : HasMade (speaking ts interface) s.search.budget a

-- so is the reason of a stop
abbrev pub IsStoppedBy : List Term → ℕ → SearchState → Stop → Type 0
IsStoppedBy ts limit s stop = StopsBy (λ e. IsAnswered ts limit s (Unknown (reasons.Overflow e))) stop

-- what is answered to a stop: its reason, or that memory ran out
abbrev pub AnswersStop : Stop → Result Answer NoMemory → Type 0
AnswersStop (stops.Strained s) (Ok a) = a ≡ Unknown (reasons.Overflow s)
AnswersStop stops.Memory (Err e) = Unit {0}
AnswersStop stop result = ⊥
