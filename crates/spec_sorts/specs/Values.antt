-- Values, and interpretations of declared symbols. Source: SMT-LIB 2.6, section 5.3; the finite tables are own.
use Rattle.std.specs.Prelude.{◌≡◌, ℕ, Bool, true, false, not, ◌&&◌, ◌||◌, List, [], ◌∷◌, nat_eq, if◌then◌else◌, All, ⊤}
use Rattle.std.specs.Str.{bytes_eq}
use Rattle.spec_text.specs.Bytes.{Name}
use Rattle.spec_numbers.specs.Fractions.{Fraction, IsReduced, zero_fraction}
use Rattle.spec_sorts.specs.Terms.{Sort, Truth, Number, Declared, Symbol, same_fraction}

-- A truth value, a fraction, or an element of a declared sort by its number, from 0.
pub data Value : Type 0 where
  -- a value of sort Bool
  truth : Bool → Value
  -- a value of sort Real
  number : Fraction → Value
  -- the sort by its name, and which of its elements
  element : Name → ℕ → Value

-- the values are the same
abbrev pub same_value : Value → Value → Bool
same_value (truth true) (truth b) = b
same_value (truth false) (truth b) = not b
same_value (number p) (number q) = same_fraction p q
same_value (element s k) (element t m) = bytes_eq s t && nat_eq k m
same_value _ _ = false

-- as many values, and the same in their order
abbrev pub same_values : List Value → List Value → Bool
same_values [] [] = true
same_values (v ∷ vs) (w ∷ ws) = same_value v w && same_values vs ws
same_values _ _ = false

-- the value is the truth value true
abbrev pub is_true : Value → Bool
is_true (truth b) = b
is_true _ = false

-- the fraction that a value is
abbrev pub number_in : Value → Fraction
number_in (number q) = q
number_in _ = zero_fraction

-- each value is true
abbrev pub all_true : List Value → Bool
all_true [] = true
all_true (v ∷ vs) = is_true v && all_true vs

-- one of the values is true
abbrev pub any_true : List Value → Bool
any_true [] = false
any_true (v ∷ vs) = is_true v || any_true vs

-- one of two truth values is true, and the other is not
abbrev pub different : Bool → Bool → Bool
different true b = not b
different false b = b

-- the second of three values where the first is true, else the third
abbrev pub chosen : List Value → Value
chosen (c ∷ v ∷ w ∷ _) = if is_true c then v else w
chosen _ = truth false

-- the value is of the sort: a number is in lowest terms, so that values which are one number are one value
abbrev pub HasSort : Sort → Value → Type 0
HasSort Truth (truth b) = ⊤
HasSort Number (number q) = IsReduced q
HasSort (Declared n) (element m k) = n ≡ m
HasSort s v = ⊥

-- values of these sorts, in order
abbrev pub HaveSorts : List Sort → List Value → Type 0
HaveSorts [] [] = ⊤
HaveSorts (s ∷ ss) (v ∷ vs) = HasSort s v × HaveSorts ss vs
HaveSorts ss vs = ⊥

-- Arguments, and the value there.
pub record TableRow : Type 0 where
  -- the arguments' values
  pub arguments : List Value
  -- the value there
  pub value : Value

-- A finite list of rows, and what holds everywhere else.
pub record Table : Type 0 where
  -- the rows, of which the first that fits counts
  pub rows : List TableRow
  -- the value for all other arguments
  pub default : Value

-- the first row that fits counts, else the default
abbrev pub first_fit : List TableRow → Value → List Value → Value
first_fit [] default vs = default
first_fit (r ∷ rs) default vs = if same_values r.arguments vs then r.value else first_fit rs default vs

-- A table for each name.
pub record Interpretation : Type 0 where
  -- what each name gives, whether it is declared or not
  pub table : Name → Table

-- the value of a name at values under an interpretation
abbrev pub table_value : Interpretation → Name → List Value → Value
table_value i n vs = first_fit (i.table n).rows (i.table n).default vs

-- a row of a symbol's table
pub record IsRowOf (s : Symbol) (r : TableRow) : Type 0 where
  -- the arguments have the parameters' sorts
  pub arguments : HaveSorts s.parameters r.arguments
  -- the value has the symbol's sort
  pub value : HasSort s.result r.value

-- the table of a symbol: rows and default of the right sorts, and no rows without parameters
pub record IsTableOf (s : Symbol) (t : Table) : Type 0 where
  -- the default has the symbol's sort
  pub default : HasSort s.result t.default
  -- each row has the symbol's sorts
  pub rows : All (IsRowOf s) t.rows
  -- a constant has the default alone
  pub bare : s.parameters ≡ [] → t.rows ≡ []

-- each of the symbols has its table
abbrev pub Interprets : Interpretation → List Symbol → Type 0
Interprets i symbols = All (λ s. IsTableOf s (i.table s.name)) symbols
