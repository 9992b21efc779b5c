-- Which interpretation a search answers with: by the truths of its literals, and by the classes and numbers of its
-- terms.
use Rattle.std.specs.Prelude.{◌≡◌, ◌<◌, ℕ, Bool, true, ◌&&◌, List, [], ◌∷◌, length, All, Contains}
use Rattle.std.specs.Prelude.{slice_index_or, if◌then◌else◌}
use Rattle.std.specs.List.{list_any}
use Rattle.spec_numbers.specs.Fractions.{Fraction, zero_fraction}
use Rattle.spec_sorts.specs.Terms.{Number, Symbol, Apply, Term, Terms, app, list_of, sort_of, same_term}
use Rattle.spec_sorts.specs.Values.{truth, Interpretation, Interprets}
use Rattle.spec_sorts.specs.TermValues.{value_at}
use Rattle.spec_arithmetic.specs.Numbers.{number_at}
use Rattle.spec_rules.specs.Truths.{Truths, term_true_by}
use Rattle.spec_valuations.specs.Tables.{Valuation, table_of}
use Rattle.spec_valuations.specs.Classes.{value_by, class_in}
use Rattle.term_core.specs.declared.ids.TermId.{TermId}
use Rattle.term_core.specs.declared.ids.Lit.{Lit}
use Rattle.term_core.specs.Symbols.{no_symbol}
use Rattle.term_core.specs.Tables.{TableView, term_at, clause_at}
use Rattle.term_walks.specs.declared.values.Interp.{Interp}
use Rattle.term_walks.specs.Valuations.{no_table, tables_meant, HasSymbolTables, IsTableNamed}

-- the literal is the term as it is
abbrev pub affirms : TableView → Lit → Term → Bool
affirms t l u = l.positive && same_term (term_at t l.term) u

-- a term is true where it is among the literals that hold, as it is
abbrev pub truths_of : TableView → List Lit → Truths
truths_of t held u = list_any (λ l. affirms t l u) held

-- the number of a term among listed ones, by the numbers at their places; of any other 0
abbrev pub number_in : List Term → List Fraction → Term → Fraction
number_in (t ∷ ts) (q ∷ qs) u = if same_term t u then q else number_in ts qs u
number_in _ _ u = zero_fraction

-- each argument of sort Real is listed, and its number is that of its head at its arguments' numbers
abbrev pub TakeNumbersOf : (Term → Fraction) → List Term → Type 0
TakeNumbersOf number terms = (s : Symbol) (ts : Terms) (u : Term) → Contains terms (app (Apply s) ts)
    → Contains (list_of ts) u
    → sort_of u ≡ Number → Contains terms u × (number u ≡ number_at number u)

-- the value of a listed term: its truth, its number, or the element of the number of its class
abbrev pub values_of : TableView → List Lit → List TermId → List ℕ → List Fraction → Valuation
values_of t held terms classes numbers =
    value_by (term_true_by (truths_of t held)) (number_in (clause_at t terms) numbers)
    (class_in (clause_at t terms) classes)

-- the symbol of that number
abbrev pub symbol_in : TableView → ℕ → Symbol
symbol_in t k = slice_index_or t.symbols k no_symbol

-- what no place of a list of numbers has
abbrev pub no_id : TermId
no_id = record { 0 = 0 }

-- Each symbol has a row for each listed term with it as head, and for all other arguments false, 0 or the first
-- element. A constant that is listed has its value alone.
pub record IsModelOf (t : TableView) (held : List Lit) (terms : List TermId) (classes : List ℕ)
    (numbers : List Fraction) (interp : Interp) : Type 0 where
  -- there is a table for each symbol, and no other
  pub tables : length interp.tables.items ≡ length t.symbols
  -- elements are of sorts of the table
  pub named : All (IsTableNamed t.sorts) interp.tables.items
  -- it is the table by the values of the listed terms
  pub each : (k : ℕ) → k < length t.symbols → slice_index_or (tables_meant t.sorts interp) k no_table
      ≡ table_of (values_of t held terms classes numbers) (symbol_in t k) (clause_at t terms)

-- Tables for the symbols, under which terms are true.
pub record IsModel (t : TableView) (terms : List Term) (interp : Interp) : Type 0 where
  -- there is a table for each symbol, and no other
  pub tables : length interp.tables.items ≡ length t.symbols
  -- elements are of sorts of the table
  pub named : All (IsTableNamed t.sorts) interp.tables.items
  -- an interpretation has these tables
  pub interpretation : (i : Interpretation) × HasSymbolTables t interp i
  -- each that has them gives each symbol a table of its own sorts
  pub interprets : (i : Interpretation) → HasSymbolTables t interp i → Interprets i t.symbols
  -- and the terms are true under it
  pub holds : (i : Interpretation) → HasSymbolTables t interp i → All (λ u. value_at i [] u ≡ truth true) terms
