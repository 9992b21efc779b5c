-- Filled terms of a table.
use Rattle.std.specs.Prelude.{◌≡◌, ℕ, ◌<◌, List, length, get_or, Option, Some, None}
use Rattle.spec_sorts.specs.Terms.{Parameter, Term, app, filled, filled_all}
use Rattle.term_core.specs.declared.ids.TermId.{TermId}
use Rattle.term_core.specs.Tables.{TableView, term_at, IsIn}
use Rattle.term_walks.specs.Orders.{number_term}

-- the term is the filled term of a number
abbrev pub IsFilled : TableView → List Term → ℕ → TermId → Type 0
IsFilled t ts k id = IsIn t id × (term_at t id ≡ filled ts (number_term t k))

-- they are the filled terms of the first terms of an order
abbrev pub AreFilled : TableView → List Term → List ℕ → List TermId → Type 0
AreFilled t ts order made = (j : ℕ) (d : TermId) → j < length made → IsFilled t ts (get_or order j 0) (get_or made j d)

-- the term with its arguments filled
abbrev pub refilled : List Term → Term → Term
refilled ts (app h us) = app h (filled_all ts us)

-- the term is a parameter
abbrev pub IsParameter : ℕ → Term → Type 0
IsParameter k (app (Parameter j s) us) = j ≡ k
IsParameter k (app h us) = ⊥

-- the term is no parameter
abbrev pub IsNoParameter : Term → Type 0
IsNoParameter (app (Parameter j s) us) = ⊥
IsNoParameter (app h us) = Unit {0}

-- the term is the parameter of that number, or none
abbrev pub IsParameterOr : Option ℕ → Term → Type 0
IsParameterOr (Some k) t = IsParameter k t
IsParameterOr None t = IsNoParameter t
