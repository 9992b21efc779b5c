-- How simplex came to be where it does, and what it is stopped by there.
use Rattle.std.specs.Prelude.{◌⊎◌, ◌≤◌, ◌<◌, ℕ, List, All, Contains}
use Rattle.spec_sorts.specs.Terms.{Term}
use Rattle.spec_sorts.specs.Subsets.{AreAmong}
use Rattle.spec_causes.specs.TermTableau.{TermTableau}
use Rattle.spec_causes.specs.Reached.{IsReached, IsStoppedAt}
use Rattle.spec_causes.specs.Causes.{OverflowsAt}
use Rattle.ratio128.specs.Meant.{overflow}
use Rattle.term_core.specs.declared.ids.Lit.{Lit}
use Rattle.term_core.specs.Tables.{TableView, term_at}
use Rattle.sat_budget.specs.declared.limits.Strain.{Strain}
use Rattle.proof_log.specs.Theories.{terms_watched}
use Rattle.simplex_atoms.specs.TermTableauViews.{term_tableau_in, IsBasisAt}
use Rattle.simplex.specs.Views.{SimplexView}
use Rattle.simplex.specs.Checks.{KeepsBounds}

-- its variables, rows and values, as a table means them
abbrev pub term_tableau_of : TableView → SimplexView → TermTableau
term_tableau_of t v = term_tableau_in t v.atoms.owners v.assignment

-- so many runs are fewer than n; or no more, and the values keep the bounds that are held
abbrev pub AreFew : SimplexView → (n runs : ℕ) → Type 0
AreFew v n runs = (KeepsBounds v × (runs ≤ n)) ⊎ (runs < n)

-- It came of terms by exchanges: what it watches and holds is of these terms, and so is what it is on. The exchanges
-- were made in few
-- runs for n.
pub record CameBy (t : TableView) (ts : List Term) (n : ℕ) (es : List (ℕ × ℕ)) (v : SimplexView) : Type 0 where
  -- the watched terms
  pub watched : AreAmong (terms_watched t v.theory) ts
  -- the atoms of held literals
  pub held : All (λ (l : Lit). Contains ts (term_at t l.term)) v.theory.held
  -- variables, rows and values
  pub runs : ℕ
  pub reached : IsReached ts runs es (term_tableau_of t v)
  pub few : AreFew v n runs

-- It was stopped by an overflow after exchanges, which were made in at most n runs.
pub record StoppedBy (t : TableView) (ts : List Term) (n : ℕ) (es : List (ℕ × ℕ)) (v : SimplexView) : Type 0 where
  pub runs : ℕ
  pub stopped : IsStoppedAt ts runs es (term_tableau_of t v)
  pub few : runs ≤ n

-- an operation of it over terms comes to the overflow of a stop, which tells the basis and the values of its state
abbrev pub IsOverflowAt : TableView → List Term → Strain → SimplexView → Type 0
IsOverflowAt t ts s v = OverflowsAt ts (term_tableau_of t v) (overflow s.wide) × IsBasisAt (term_tableau_of t v) s.basis
