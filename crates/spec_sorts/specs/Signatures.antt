-- Sorts, declared symbols and definitions by their names. Source: SMT-LIB 2.6, section 5.2 and section 4.2.3.
use Rattle.std.specs.Prelude.{Bool, true, false, List, [], ◌∷◌, ◌++◌, map, Option, Some, None, if◌then◌else◌}
use Rattle.std.specs.Str.{bytes_eq}
use Rattle.spec_text.specs.Bytes.{Name}
use Rattle.spec_text.specs.Trees.{Tree}
use Rattle.spec_sorts.specs.Terms.{Sort, Symbol, Term}

-- A name that stands for a text, with the term that this is read as.
pub record Definition : Type 0 where
  -- the name, without bars
  pub name : Name
  -- the parameters with their sorts, in their order
  pub parameters : List (Name × Sort)
  -- the sort of the body
  pub result : Sort
  -- the text that the name stands for
  pub body : Tree
  -- the term that the text is read as, with each parameter by its number
  pub term : Term

-- A name of a function.
pub data Known : Type 0 where
  -- a declared symbol
  declared : Symbol → Known
  -- a definition
  defined : Definition → Known

-- One name of a signature. Sorts and functions have their names apart.
pub data Declaration : Type 0 where
  -- a sort's name and the sort that it means: its own one, or that of its definition
  of_sort : Name → Sort → Declaration
  -- a function's name
  of_function : Known → Declaration

-- All that is declared or defined, in its order, the oldest first.
abbrev pub Signature : Type 0
Signature = List Declaration

-- the name of a function
abbrev pub known_name : Known → Name
known_name (declared f) = f.name
known_name (defined d) = d.name

-- the function of that name
abbrev pub known_as : Signature → Name → Option Known
known_as [] n = None
known_as (of_sort m s ∷ ds) n = known_as ds n
known_as (of_function k ∷ ds) n = if bytes_eq (known_name k) n then Some k else known_as ds n

-- the sort of that name
abbrev pub sort_as : Signature → Name → Option Sort
sort_as [] n = None
sort_as (of_sort m s ∷ ds) n = if bytes_eq m n then Some s else sort_as ds n
sort_as (of_function k ∷ ds) n = sort_as ds n

-- there is something
abbrev pub is_some : {A : Type 0} → Option A → Bool
is_some None = false
is_some (Some a) = true

-- the declared symbols, in their order
abbrev pub symbols_in : Signature → List Symbol
symbols_in [] = []
symbols_in (of_function (declared f) ∷ ds) = f ∷ symbols_in ds
symbols_in (d ∷ ds) = symbols_in ds

-- a definition as a declaration
abbrev pub definition : Definition → Declaration
definition d = of_function (defined d)

-- the signature with definitions after it
abbrev pub with_definitions : Signature → List Definition → Signature
with_definitions s ds = s ++ map definition ds
