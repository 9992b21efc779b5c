-- What symbols and terms of a table use is declared there.
use Rattle.std.specs.Prelude.{ℕ, List, Contains, take}
use Rattle.spec_text.specs.Bytes.{Name}
use Rattle.spec_sorts.specs.Terms.{Sort, Declared, Symbol, Head, Apply, Parameter, Terms, app}
use Rattle.term_core.specs.Symbols.{SymbolsView}
use Rattle.term_core.specs.Tables.{TableView, declared_in}

-- a sort over names: what is declared is one of them
abbrev pub IsSortOver : List Name → Sort → Type 0
IsSortOver sorts (Declared n) = Contains sorts n
IsSortOver sorts s = Unit {0}

-- A symbol's sorts are over names.
pub record IsSymbolOver (sorts : List Name) (f : Symbol) : Type 0 where
  -- those that it takes
  pub parameters : (s : Sort) → Contains f.parameters s → IsSortOver sorts s
  -- the one that it gives
  pub result : IsSortOver sorts f.result

-- each of the symbols is over names
abbrev pub AreSymbolsOver : List Name → List Symbol → Type 0
AreSymbolsOver sorts symbols = (f : Symbol) → Contains symbols f → IsSymbolOver sorts f

-- what a head uses is declared: its symbol, or the sort of a parameter
abbrev pub IsHeadDeclared : SymbolsView → Head → Type 0
IsHeadDeclared d (Apply f) = Contains d.symbols f
IsHeadDeclared d (Parameter k s) = IsSortOver d.sorts s
IsHeadDeclared d h = Unit {0}

-- What the symbols and terms of a table use is declared there.
pub record UsesDeclared (t : TableView) : Type 0 where
  -- the sorts of its symbols
  pub symbols : AreSymbolsOver t.sorts t.symbols
  -- the symbols of its terms, and the sorts of their parameters
  pub heads : (h : Head) (ts : Terms) → Contains t.terms (app h ts) → IsHeadDeclared (declared_in t) h

-- the table with its first sorts and its first symbols alone
abbrev pub first_declared : ℕ → ℕ → TableView → TableView
first_declared sorts symbols t =
    record { sorts = take sorts t.sorts; symbols = take symbols t.symbols; terms = t.terms }
