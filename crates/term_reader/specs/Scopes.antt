-- What a scope holds, and the signature that it represents in a table.
use Rattle.std.specs.Prelude.{◌≡◌, ℕ, suc, ◌+◌, max, ◌++◌, List, [], ◌∷◌, length, Option, Some, None, nat_lt}
use Rattle.std.specs.Prelude.{if◌then◌else◌}
use Rattle.spec_text.specs.Bytes.{Name}
use Rattle.spec_sorts.specs.Terms.{Sort}
use Rattle.spec_sorts.specs.Theory.{look_up}
use Rattle.spec_sorts.specs.Signatures.{Definition, Known, declared, defined, Signature, known_as, sort_as}
use Rattle.spec_reading.specs.Reading.{sorts_taken}
use Rattle.spec_reading.specs.WellSorted.{AreWellSorted}
use Rattle.term_core.specs.declared.sorts.Sort.{Sort as TableSort}
use Rattle.term_core.specs.Symbols.{HasSortIn, HaveSortsIn, sort_meant, sorts_meant, symbol_at, IsSymbol}
use Rattle.term_core.specs.Tables.{TableView, term_at, IsIn}
use Rattle.term_reader.specs.NameStacks.{newest}
use Rattle.term_reader.specs.declared.scope.Macro.{Macro}
use Rattle.term_reader.specs.declared.scope.Function.{Function}
use Rattle.term_reader.specs.declared.scope.Function.TheVariants.{Declared, Defined}

-- The names of sorts and of functions, oldest first, with what each stands for.
pub record ScopeView : Type 0 where
  -- the names of sorts
  pub sort_names : List Name
  -- the sort of each
  pub sorts : List TableSort
  -- the names of functions
  pub names : List Name
  -- the function of each
  pub functions : List Function

-- As many sorts and functions as names.
pub record IsScope (sort_names : List Name) (sorts : List TableSort) (names : List Name)
    (functions : List Function) : Type 0 where
  -- a sort for each name
  pub each_sort : length sort_names ≡ length sorts
  -- a function for each name
  pub each_function : length names ≡ length functions

-- no name stands for anything
abbrev pub no_names : ScopeView
no_names = record { sort_names = []; sorts = []; names = []; functions = [] }

-- the sort that a name stands for
abbrev pub sort_under : ScopeView → Name → Option TableSort
sort_under v n = look_up (newest v.sort_names v.sorts) n

-- the function that a name stands for
abbrev pub function_under : ScopeView → Name → Option Function
function_under v n = look_up (newest v.names v.functions) n

-- one past the number of a function's body, where that is below a length; else 0
abbrev pub body_end : ℕ → Function → ℕ
body_end len (Declared id) = 0
body_end len (Defined m) = if nat_lt m.body.0 len then suc m.body.0 else 0

-- how many of the first terms the bodies of functions are among: one past the greatest number of those below a length
abbrev pub terms_needed : ℕ → List Function → ℕ
terms_needed len [] = 0
terms_needed len (f ∷ fs) = max (body_end len f) (terms_needed len fs)

-- the sort is there, and is that one
abbrev pub SortMeans : TableView → Option TableSort → Option Sort → Type 0
SortMeans t None None = Unit {0}
SortMeans t (Some s) (Some r) = HasSortIn t.sorts s × (sort_meant t.sorts s ≡ r)
SortMeans t _ _ = ⊥

-- A definition by the numbers of a table.
pub record IsMacro (t : TableView) (m : Macro) (d : Definition) : Type 0 where
  -- the parameters' sorts are there
  pub parameters_there : HaveSortsIn t.sorts m.parameters.items
  -- they are those that it takes
  pub parameters : sorts_meant t.sorts m.parameters.items ≡ sorts_taken d
  -- the body's sort is there
  pub result_there : HasSortIn t.sorts m.result
  -- it is the one that it gives
  pub result : sort_meant t.sorts m.result ≡ d.result
  -- the body is there
  pub body_there : IsIn t m.body
  -- it is the term that it stands for
  pub body : term_at t m.body ≡ d.term

-- the function is that one, by the numbers of a table
abbrev pub FunctionMeans : TableView → Option Function → Option Known → Type 0
FunctionMeans t None None = Unit {0}
FunctionMeans t (Some (Declared id)) (Some (declared f)) = IsSymbol t.symbols id × (symbol_at t.symbols id ≡ f)
FunctionMeans t (Some (Defined m)) (Some (defined d)) = IsMacro t m d
FunctionMeans t _ _ = ⊥

-- In a table the scope represents a signature: each name is there in both or in none, and means the same.
pub record ScopeMeans (t : TableView) (v : ScopeView) (s : Signature) : Type 0 where
  -- the names of sorts
  pub sorts : (n : Name) → SortMeans t (sort_under v n) (sort_as s n)
  -- the names of functions
  pub functions : (n : Name) → FunctionMeans t (function_under v n) (known_as s n)
  -- as many names are declared and defined
  pub count : length v.sort_names + length v.names ≡ length s
  -- definitions stand for well-sorted terms
  pub sorted : AreWellSorted s

-- in a table the scope represents some signature
abbrev pub HasSignature : TableView → ScopeView → Type 0
HasSignature t v = (s : Signature) × ScopeMeans t v s

-- The scope has what it had, and functions more.
pub record Widens (old new : ScopeView) : Type 0 where
  -- the names of sorts are the same
  pub sort_names : new.sort_names ≡ old.sort_names
  -- they stand for the same
  pub sorts : new.sorts ≡ old.sorts
  -- the names that came
  pub more_names : List Name
  -- they come after those that were there
  pub names : new.names ≡ old.names ++ more_names
  -- the functions that came
  pub more_functions : List Function
  -- they come after those that were there
  pub functions : new.functions ≡ old.functions ++ more_functions
