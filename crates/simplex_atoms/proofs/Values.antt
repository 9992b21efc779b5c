-- The value of a form by its place.
use Rattle.std.proofs.Common.{◌≡◌, ℕ, ◌∙◌, ap}
use Rattle.spec_numbers.specs.Fractions.{plus}
use Rattle.spec_numbers.proofs.Field.{plus-comm}
use Rattle.spec_sorts.specs.Terms.{Term}
use Rattle.spec_arithmetic.specs.Forms.{Form, form_value}
use Rattle.spec_tableaux.specs.Spaces.{Pair, as_space}
use Rattle.spec_tableaux.specs.Rows.{Solves}
use Rattle.spec_tableaux.specs.Numbers.{Number, numbers, fractions}
use Rattle.spec_tableaux.proofs.PairSolutions.{pair_parts}
use Rattle.spec_simplex.specs.Points.{Point, base_at, tilt_at}
use Rattle.tableau.specs.Numbers.{number_of}
use Rattle.spec_tableaux.specs.Points.{deltas}
use Rattle.simplex_atoms.specs.declared.slack.Slack.{Slack}
use Rattle.simplex_atoms.specs.Owners.{AreOwned}
use Rattle.simplex_atoms.specs.Slacks.{AtomSetting, IsFormOf}

module _ (s : AtomSetting) (slack : Slack) (f : Form) (is : IsFormOf s slack f) where
  -- over numbers
  pub form_comes : (n : Term → Number) (v : ℕ → Number) → AreOwned s.table s.owners n v → Solves (as_space numbers) v s.listed
      → form_value (λ u. (n u).fraction) f ≡ (numbers.plus (numbers.times (number_of slack.factor) (v slack.variable)) (number_of slack.constant)).fraction
  unfolding numbers fractions form_value
  form_comes n v o h = (λ i. plus (is.constant i) (is.value n v o h i)) ∙ plus-comm _ _

  module _ (p : Point) (v : ℕ → Pair Number) (o : AreOwned s.table s.owners p v) (h : Solves deltas v s.listed) where
    -- at points
    pub base_comes : base_at p f ≡ (numbers.plus (numbers.times (number_of slack.factor) (v slack.variable).base) (number_of slack.constant)).fraction
    base_comes = form_comes (λ u. (p u).base) (λ y. (v y).base) (λ y id e. ap (λ (q : Pair Number). q.base) (o y id e)) (pair_parts numbers v s.listed h).0

    pub tilt_comes : tilt_at p f ≡ (numbers.times (number_of slack.factor) (v slack.variable).tilt).fraction
    tilt_comes = is.value (λ u. (p u).tilt) (λ y. (v y).tilt) (λ y id e. ap (λ (q : Pair Number). q.tilt) (o y id e)) (pair_parts numbers v s.listed h).1
