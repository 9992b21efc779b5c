-- What both theories keep, and how they belong together.
use Rattle.std.specs.Prelude.{◌≡◌, ◌⊎◌}
use Rattle.proof_log.specs.Meanings.{Meaning}
use Rattle.congruence_closure.specs.Closure.{ClosureView}
use Rattle.congruence.specs.Views.{theory_of}
use Rattle.simplex.specs.Views.{SimplexView}

-- What each theory keeps of literals, terms and marks.
pub record CombinedView : Type 0 where
  -- equality and functions
  pub congruence : ClosureView
  -- linear arithmetic
  pub simplex : SimplexView

-- both hold the same literals, watch the same terms and have the same marks
abbrev pub HoldTheSame : CombinedView → Type 0
HoldTheSame v = theory_of v.congruence ≡ v.simplex.theory

-- What two theories mean that hold and watch the same, as one: linear arithmetic makes the exchanges.
abbrev pub both : Meaning → Meaning → Meaning
both equality arithmetic = record {
  view = equality.view;
  goes_with = λ t. equality.goes_with t × arithmetic.goes_with t;
  agrees = λ ts ls. equality.agrees ts ls × arithmetic.agrees ts ls;
  refuses = λ ts ls. equality.refuses ts ls ⊎ arithmetic.refuses ts ls;
  running = arithmetic.running;
}
