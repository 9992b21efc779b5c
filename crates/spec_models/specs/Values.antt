-- How names, sorts and values are printed: each as an s-expression. Source: SMT-LIB 2.6, sections 3.1 to 3.5 and 4.2.6;
-- the elements of a declared sort are own.
use Rattle.std.specs.Prelude.{ℕ, zero, suc, ◌+◌, ◌/◌, ◌%◌, ◌==◌, Bool, ℤ, pos, negsuc, List, [], ◌∷◌, ◌++◌, codes}
use Rattle.std.specs.Prelude.{nat_eq, true, false, if◌then◌else◌}
use Rattle.spec_text.specs.declared.Kind.TheVariants.{Numeral, Simple, Quoted, Reserved}
use Rattle.spec_text.specs.Bytes.{Name, is_in_bars}
use Rattle.spec_text.specs.Lexicon.{Consists}
use Rattle.spec_text.specs.Trees.{Tree, Trees, atom, list, none, more}
use Rattle.spec_text.specs.Printed.{printed}
use Rattle.spec_numbers.specs.Fractions.{Fraction}
use Rattle.spec_sorts.specs.Terms.{Sort, Truth, Number, Declared}
use Rattle.spec_sorts.specs.Values.{Value, truth, number, element}

-- the trees of a list, in its order
abbrev pub trees_of : List Tree → Trees
trees_of [] = none
trees_of (t ∷ ts) = more t (trees_of ts)

-- a list in parentheses
abbrev pub in_list : List Tree → Tree
in_list ts = list 0 (trees_of ts) 0

-- a symbol that is none of a script's, as it is written
abbrev pub word_tree : Name → Tree
word_tree n = atom 0 Simple n

-- a reserved word
abbrev pub reserved_tree : Name → Tree
reserved_tree n = atom 0 Reserved n

-- the digits of a number before others, in at most so many steps; the test says whether it has no more
abbrev pub digits_before : ℕ → Bool → ℕ → List ℕ → List ℕ
digits_before zero no_more n later = later
digits_before (suc k) true n later = later
digits_before (suc k) false n later = digits_before k (n / 10 == 0) (n / 10) ((48 + n % 10) ∷ later)

-- the digits of a number of any size, without zeros before them
unfoldable pub numeral : ℕ → List ℕ
numeral n = digits_before (suc n) false n []

-- a numeral
abbrev pub numeral_tree : ℕ → Tree
numeral_tree n = atom 0 Numeral (numeral n)

-- a symbol of a script by its name, with bars where it is no symbol without them
abbrev pub symbol_tree : Name → Tree
symbol_tree n = atom 0 Quoted n

-- a symbol can have the name: bytes that may be between bars
abbrev pub IsName : Name → Type 0
IsName n = Consists is_in_bars n

-- a sort by its name
abbrev pub sort_tree : Sort → Tree
sort_tree Truth = word_tree (codes "Bool")
sort_tree Number = word_tree (codes "Real")
sort_tree (Declared n) = symbol_tree n

-- a whole number, one below 0 by its negation
abbrev pub whole_tree : ℤ → Tree
whole_tree (pos n) = numeral_tree n
whole_tree (negsuc n) = in_list (word_tree (codes "-") ∷ numeral_tree (suc n) ∷ [])

-- a fraction: a whole number alone, or a quotient
abbrev pub fraction_tree : Fraction → Tree
fraction_tree q = if nat_eq q.den 1 then whole_tree q.num else in_list (word_tree (codes "/") ∷ whole_tree q.num
    ∷ numeral_tree q.den ∷ [])

-- the word of an element by its number
abbrev pub element_word : ℕ → Name
element_word k = codes "@e" ++ numeral k

-- an element of a declared sort by its number
abbrev pub element_tree : Name → ℕ → Tree
element_tree s k = in_list (reserved_tree (codes "as") ∷ word_tree (element_word k) ∷ symbol_tree s ∷ [])

-- a value
abbrev pub value_tree : Value → Tree
value_tree (truth true) = word_tree (codes "true")
value_tree (truth false) = word_tree (codes "false")
value_tree (number q) = fraction_tree q
value_tree (element s k) = element_tree s k

-- what is printed of a value
abbrev pub value_text : Value → List ℕ
value_text v = printed (value_tree v)
