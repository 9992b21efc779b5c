-- Sorts and symbols by their numbers.
use Rattle.std.specs.Prelude.{◌≡◌, ◌<◌, List, [], ◌∷◌, length, map, All, slice_index_or, Option, Some, None}
use Rattle.std.specs.Prelude.{if◌then◌else◌, refl}
use Rattle.std.specs.Coded.{Coded, code_by, coded×, coded_list}
use Rattle.std.specs.Str.{bytes_eq}
use Rattle.spec_text.specs.Bytes.{Name}
use Rattle.spec_sorts.specs.Terms.{Sort, Truth, Number, Declared, Symbol, constant}
use Rattle.spec_sorts.specs.TermCodes.{name_code, symbol_code}
use Rattle.term_core.specs.declared.ids.SymbolId.{SymbolId}
use Rattle.term_core.specs.declared.ids.SortId.{SortId}
use Rattle.term_core.specs.declared.sorts.Sort.{Sort as TableSort}
use Rattle.term_core.specs.declared.sorts.Sort.TheVariants.{Bool as bool_sort, Real as real_sort}
use Rattle.term_core.specs.declared.sorts.Sort.TheVariants.{Declared as declared_sort}
use Rattle.term_core.specs.declared.sorts.Rank.{Rank}
use Rattle.term_core.specs.NameLists.{HaveNoTwice}

-- The declared sorts and symbols, oldest first.
pub record SymbolsView : Type 0 where
  -- the name of each sort's number
  pub sorts : List Name
  -- the symbol of each number
  pub symbols : List Symbol

-- they differ where their sorts or symbols do
abbrev pub symbols_code : Coded SymbolsView
symbols_code = code_by (List Name × List Symbol) (coded× (coded_list name_code) (coded_list symbol_code))
    (λ v. (v.sorts, v.symbols)) (λ p. record { sorts = p.0; symbols = p.1 }) (λ _. refl)

-- the name of a number among sorts
abbrev pub sort_name : List Name → SortId → Name
sort_name sorts s = slice_index_or sorts s.0 []

-- the number is one of the sorts'
abbrev pub IsSort : List Name → SortId → Type 0
IsSort sorts s = s.0 < length sorts

-- the sort is there: Bool and Real are always
abbrev pub HasSortIn : List Name → TableSort → Type 0
HasSortIn sorts (declared_sort s) = IsSort sorts s
HasSortIn sorts s = Unit {0}

-- each of the sorts is there
abbrev pub HaveSortsIn : List Name → List TableSort → Type 0
HaveSortsIn sorts ss = All (λ s. HasSortIn sorts s) ss

-- the sort that the code's word means
abbrev pub sort_meant : List Name → TableSort → Sort
sort_meant sorts bool_sort = Truth
sort_meant sorts real_sort = Number
sort_meant sorts (declared_sort s) = Declared (sort_name sorts s)

-- the sorts, in order
abbrev pub sorts_meant : List Name → List TableSort → List Sort
sorts_meant sorts ss = map (sort_meant sorts) ss

-- what no number of symbols means
abbrev pub no_symbol : Symbol
no_symbol = constant [] Truth

-- the symbol of a number
abbrev pub symbol_at : List Symbol → SymbolId → Symbol
symbol_at symbols s = slice_index_or symbols s.0 no_symbol

-- the number is one of the symbols'
abbrev pub IsSymbol : List Symbol → SymbolId → Type 0
IsSymbol symbols s = s.0 < length symbols

-- the first symbol of that name
abbrev pub symbol_named : List Symbol → Name → Option Symbol
symbol_named [] n = None
symbol_named (s ∷ symbols) n = if bytes_eq s.name n then Some s else symbol_named symbols n

-- the names of symbols, in order
abbrev pub names_of : List Symbol → List Name
names_of symbols = map (λ s. s.name) symbols

-- a symbol of a name, with the sorts of the code's words
abbrev pub symbol_of : List Name → Name → List TableSort → TableSort → Symbol
symbol_of sorts n parameters result = record {
  name = n;
  parameters = sorts_meant sorts parameters;
  result = sort_meant sorts result;
}

-- names with their ranks, in order
abbrev pub symbols_of : List Name → List Name → List Rank → List Symbol
symbols_of sorts (n ∷ ns) (r ∷ rs) = symbol_of sorts n r.parameters.items r.result ∷ symbols_of sorts ns rs
symbols_of sorts ns rs = []

-- the sorts of a rank are there
pub record IsRank (sorts : List Name) (r : Rank) : Type 0 where
  -- those that it takes
  pub parameters : HaveSortsIn sorts r.parameters.items
  -- the one that it gives
  pub result : HasSortIn sorts r.result

-- Names and ranks that represent symbols over sorts.
pub record AreRanks (sorts names : List Name) (ranks : List Rank) : Type 0 where
  -- no sort's name occurs twice
  pub sorts_apart : HaveNoTwice sorts
  -- no symbol's name occurs twice
  pub names_apart : HaveNoTwice names
  -- as many names as ranks
  pub long : length names ≡ length ranks
  -- the sorts of each rank are there
  pub each : All (IsRank sorts) ranks

-- Sorts and symbols of which no name occurs twice.
pub record AreDeclared (sorts : List Name) (symbols : List Symbol) : Type 0 where
  -- no sort's name occurs twice
  pub sorts_apart : HaveNoTwice sorts
  -- no symbol's name occurs twice
  pub names_apart : HaveNoTwice (names_of symbols)
