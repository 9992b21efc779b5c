-- The pieces in which a model is written.
use Rattle.std.specs.Prelude.{ℕ, zero, suc, List, [], ◌∷◌, ◌++◌, flat_map, codes}
use Rattle.spec_text.specs.Printed.{printed}
use Rattle.spec_sorts.specs.Terms.{Sort, Symbol}
use Rattle.spec_sorts.specs.Values.{Value, TableRow, Table}
use Rattle.spec_models.specs.Values.{in_list, word_tree, sort_tree, value_tree}
use Rattle.spec_models.specs.Models.{parameter, equality_tree, condition_tree, body_tree, definition_tree, indented}
use Rattle.term_core.specs.Symbols.{SymbolsView}
use Rattle.term_core.specs.Tables.{TableView}

-- a table of these sorts and symbols, and of no terms
abbrev pub without_terms : SymbolsView → TableView
without_terms s = record { sorts = s.sorts; symbols = s.symbols; terms = [] }

-- a space, before all but the first
abbrev pub gap : ℕ → List ℕ
gap zero = []
gap (suc k) = 32 ∷ []

-- a parameter by its number, with its sort
abbrev pub parameter_text : ℕ → Sort → List ℕ
parameter_text k s = printed (in_list (word_tree (parameter k) ∷ sort_tree s ∷ []))

-- parameters of these sorts with a space between them, the first of that number
abbrev pub parameters_listed : ℕ → List Sort → List ℕ
parameters_listed k [] = []
parameters_listed k (s ∷ ss) = (gap k ++ parameter_text k s) ++ parameters_listed (suc k) ss

-- parameters have these values, each equality after a space, the first that of this number
abbrev pub equalities_listed : ℕ → List Value → List ℕ
equalities_listed k [] = []
equalities_listed k (v ∷ vs) = (32 ∷ printed (equality_tree k v)) ++ equalities_listed (suc k) vs

-- a row up to where the next one begins
abbrev pub row_front : TableRow → List ℕ
row_front r = codes "(ite " ++ printed (condition_tree r.arguments) ++ codes " " ++ printed (value_tree r.value)
    ++ codes " "

-- a body: the rows, the default, and what closes the rows
abbrev pub body_text : Table → List ℕ
body_text t = printed (body_tree t.rows t.default)

-- the line of a symbol with its table
abbrev pub line_text : Symbol → Table → List ℕ
line_text s t = indented (definition_tree s t)

-- a line for each symbol, by the table of its number
abbrev pub lines_by : List Symbol → List Table → List (List ℕ)
lines_by [] ts = []
lines_by (s ∷ ss) [] = []
lines_by (s ∷ ss) (t ∷ ts) = line_text s t ∷ lines_by ss ts

-- these lines between lines of one parenthesis
abbrev pub text_by : List Symbol → List Table → List ℕ
text_by ss ts = 40 ∷ 10 ∷ flat_map (λ line. line) (lines_by ss ts) ++ 41 ∷ 10 ∷ []
