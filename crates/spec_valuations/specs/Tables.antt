-- The interpretation that values of listed terms give.
use Rattle.std.specs.Prelude.{◌≡◌, true, false, List, [], ◌∷◌, ◌++◌, map, Contains, Option, Some, None, if◌then◌else◌}
use Rattle.spec_numbers.specs.Fractions.{zero_fraction}
use Rattle.spec_sorts.specs.Terms.{Sort, Truth, Number, Declared, Symbol, same_symbol, Head, Apply, Term, Terms, app}
use Rattle.spec_sorts.specs.Terms.{list_of, sort_of, sorts_of, head_takes}
use Rattle.spec_sorts.specs.Values.{Value, truth, number, element, HasSort, TableRow, Table, first_fit, Interpretation}
use Rattle.spec_sorts.specs.TermValues.{head_value}

-- which value a term has
abbrev pub Valuation : Type 0
Valuation = Term → Value

-- the values of terms, in order
abbrev pub values_by : Valuation → Terms → List Value
values_by v ts = map v (list_of ts)

-- a value of the sort
abbrev pub default_value : Sort → Value
default_value Truth = truth false
default_value Number = number zero_fraction
default_value (Declared n) = element n 0

-- the arguments of a term with the symbol as head
abbrev pub arguments_at : Symbol → Term → Option Terms
arguments_at s (app (Apply f) ts) = if same_symbol f s then Some ts else None
arguments_at s (app h ts) = None

-- the row that a term gives
abbrev pub rows_at : Valuation → Option Terms → Value → List TableRow
rows_at v None x = []
rows_at v (Some us) x = record { arguments = values_by v us; value = x } ∷ []

-- a row for each term with the symbol as head, in their order
abbrev pub rows_of : Valuation → Symbol → List Term → List TableRow
rows_of v s [] = []
rows_of v s (t ∷ ts) = rows_at v (arguments_at s t) (v t) ++ rows_of v s ts

-- the table of a symbol with these parameters: a constant has the default alone
abbrev pub table_by : Valuation → Symbol → List Sort → List Term → Table
table_by v s [] terms = record { rows = []; default = first_fit (rows_of v s terms) (default_value s.result) [] }
table_by v s (p ∷ ps) terms = record { rows = rows_of v s terms; default = default_value s.result }

-- the table of a symbol
abbrev pub table_of : Valuation → Symbol → List Term → Table
table_of v s terms = table_by v s s.parameters terms

-- the interpretation has these tables
abbrev pub IsModelBy : Interpretation → Valuation → List Symbol → List Term → Type 0
IsModelBy i v symbols terms = (s : Symbol) → Contains symbols s → i.table s.name ≡ table_of v s terms

-- a symbol gives the same value wherever its arguments have the same values
abbrev pub IsFunctional : Valuation → List Term → Type 0
IsFunctional v terms = (s : Symbol) (ts us : Terms) → Contains terms (app (Apply s) ts)
    → Contains terms (app (Apply s) us)
    → values_by v ts ≡ values_by v us → v (app (Apply s) ts) ≡ v (app (Apply s) us)

-- the value is that of the term's head at its arguments' values; of a declared symbol nothing is asked
abbrev pub Obeys : Valuation → Term → Type 0
Obeys v (app (Apply s) ts) = Unit {0}
Obeys v (app h ts) = (i : Interpretation) → v (app h ts) ≡ head_value i h (values_by v ts)

-- Listed terms: with each its arguments, which its head takes, and of declared symbols.
pub record AreListed (symbols : List Symbol) (terms : List Term) : Type 0 where
  -- with a term its arguments are listed
  pub arguments : (h : Head) (ts : Terms) → Contains terms (app h ts) → (u : Term) → Contains (list_of ts) u
      → Contains terms u
  -- each head takes its arguments, and no term is a parameter
  pub takes : (h : Head) (ts : Terms) → Contains terms (app h ts) → head_takes [] h (sorts_of ts) ≡ true
  -- symbols that are heads are declared
  pub declared : (s : Symbol) (ts : Terms) → Contains terms (app (Apply s) ts) → Contains symbols s

-- Values of listed terms that fit together.
pub record IsValuation (v : Valuation) (terms : List Term) : Type 0 where
  -- each term has a value of its sort
  pub sorts : (t : Term) → Contains terms t → HasSort (sort_of t) (v t)
  -- equal arguments give equal values
  pub functional : IsFunctional v terms
  -- heads of the theories mean what they mean
  pub obeys : (t : Term) → Contains terms t → Obeys v t
