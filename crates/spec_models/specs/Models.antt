-- How tables and models are printed. Source: SMT-LIB 2.6, sections 4.1.8 and 4.2.6; that a table is printed by its rows
-- is own.
use Rattle.std.specs.Prelude.{ℕ, suc, List, [], ◌∷◌, ◌++◌, flat_map, codes}
use Rattle.spec_text.specs.Bytes.{Name}
use Rattle.spec_text.specs.Trees.{Tree}
use Rattle.spec_text.specs.Printed.{printed}
use Rattle.spec_sorts.specs.Terms.{Sort, Symbol}
use Rattle.spec_sorts.specs.Values.{Value, TableRow, Table, Interpretation}
use Rattle.spec_models.specs.Values.{numeral, in_list, word_tree, reserved_tree, symbol_tree, sort_tree, value_tree}

-- the name of a parameter by its number, from 0
abbrev pub parameter : ℕ → Name
parameter k = codes "@x" ++ numeral k

-- parameters of these sorts, the first of that number
abbrev pub parameters_from : ℕ → List Sort → List (Name × Sort)
parameters_from k [] = []
parameters_from k (s ∷ ss) = (parameter k, s) ∷ parameters_from (suc k) ss

-- the parameters of a symbol
abbrev pub parameters_of : Symbol → List (Name × Sort)
parameters_of s = parameters_from 0 s.parameters

-- each parameter before its sort
abbrev pub parameter_trees : List (Name × Sort) → List Tree
parameter_trees [] = []
parameter_trees (p ∷ ps) = in_list (word_tree p.0 ∷ sort_tree p.1 ∷ []) ∷ parameter_trees ps

-- a parameter has a value
abbrev pub equality_tree : ℕ → Value → Tree
equality_tree k v = in_list (word_tree (codes "=") ∷ word_tree (parameter k) ∷ value_tree v ∷ [])

-- each parameter has its argument's value, the first that of this number
abbrev pub equality_trees : ℕ → List Value → List Tree
equality_trees k [] = []
equality_trees k (v ∷ vs) = equality_tree k v ∷ equality_trees (suc k) vs

-- one condition alone, or the conjunction of several; of none what is always true
abbrev pub all_of : List Tree → Tree
all_of [] = word_tree (codes "true")
all_of (t ∷ []) = t
all_of (t ∷ u ∷ ts) = in_list (word_tree (codes "and") ∷ t ∷ u ∷ ts)

-- the parameters have the values of a row
abbrev pub condition_tree : List Value → Tree
condition_tree vs = all_of (equality_trees 0 vs)

-- a row's value where the parameters have its arguments, else what is printed of the others
abbrev pub row_tree : TableRow → Tree → Tree
row_tree r others = in_list (word_tree (codes "ite") ∷ condition_tree r.arguments ∷ value_tree r.value ∷ others ∷ [])

-- the value of the first row whose arguments the parameters have, else the default
abbrev pub body_tree : List TableRow → Value → Tree
body_tree [] default = value_tree default
body_tree (r ∷ rs) default = row_tree r (body_tree rs default)

-- a symbol with its table
abbrev pub definition_tree : Symbol → Table → Tree
definition_tree s t = in_list (reserved_tree (codes "define-fun") ∷ symbol_tree s.name
    ∷ in_list (parameter_trees (parameters_of s)) ∷ sort_tree s.result ∷ body_tree t.rows t.default ∷ [])

-- a line of two spaces and what is printed of a tree
abbrev pub indented : Tree → List ℕ
indented t = 32 ∷ 32 ∷ printed t ++ 10 ∷ []

-- the line of a symbol under an interpretation
abbrev pub definition_line : Interpretation → Symbol → List ℕ
definition_line i s = indented (definition_tree s (i.table s.name))

-- the model: a line for each symbol in its order, between lines of one parenthesis
abbrev pub model_text : Interpretation → List Symbol → List ℕ
model_text i symbols = 40 ∷ 10 ∷ flat_map (definition_line i) symbols ++ 41 ∷ 10 ∷ []

-- what is printed for rows before the default
abbrev pub body_front : List TableRow → List ℕ
body_front [] = []
body_front (r ∷ rs) = codes "(ite " ++ printed (condition_tree r.arguments) ++ codes " " ++ printed (value_tree r.value)
    ++ codes " " ++ body_front rs

-- and after it
abbrev pub body_back : List TableRow → List ℕ
body_back [] = []
body_back (r ∷ rs) = 41 ∷ body_back rs
