-- What the code's forms mean.
use Rattle.std.specs.Prelude.{List, map, All}
use Rattle.spec_numbers.specs.Fractions.{Fraction}
use Rattle.spec_sorts.specs.Terms.{Term}
use Rattle.term_core.specs.declared.ids.TermId.{TermId}
use Rattle.term_core.specs.Tables.{TableView, term_at, IsIn}
use Rattle.spec_arithmetic.specs.Forms.{Form}

-- A form by the numbers of its variables: the constant, and each variable with its coefficient, in order.
pub record FormView : Type 0 where
  -- the constant
  pub constant : Fraction
  -- the variables
  pub variables : List (TermId × Fraction)

-- a variable with its coefficient, as a table means it
abbrev pub pair_meant : TableView → TermId × Fraction → Term × Fraction
pair_meant t p = (term_at t p.0, p.1)

-- the form that a table means
abbrev pub form_meant : TableView → FormView → Form
form_meant t f = record { constant = f.constant; variables = map (pair_meant t) f.variables }

-- each variable is a term of the table
abbrev pub AreVariablesOf : TableView → FormView → Type 0
AreVariablesOf t f = All (λ (p : TermId × Fraction). IsIn t p.0) f.variables
