-- The bodies of definitions in a model file: rows of tables, and defaults. Source: SMT-LIB 2.6, section 4.2.6; which
-- bodies are taken is own.
use Rattle.std.specs.Prelude.{ℕ, suc, ◌==◌, ◌&&◌, List, [], ◌∷◌, length, Ok, codes}
use Rattle.spec_text.specs.Bytes.{Name}
use Rattle.spec_text.specs.Trees.{Tree, Trees, atom, list, none, more, offset_of}
use Rattle.spec_text.specs.Answers.{◌>>=◌}
use Rattle.spec_sorts.specs.Terms.{Sort}
use Rattle.spec_sorts.specs.Values.{Value, Table}
use Rattle.spec_sorts.specs.Signatures.{Signature}
use Rattle.spec_model_files.specs.declared.ModelKind.TheVariants.{BadShape}
use Rattle.spec_model_files.specs.Faults.{ReadModel, wrong, require}
use Rattle.spec_model_files.specs.Values.{is_named, value_read}

-- how many trees there are
abbrev pub tree_count : Trees → ℕ
tree_count none = 0
tree_count (more t ts) = suc (tree_count ts)

-- Parameters with their sorts, in their order.
abbrev pub Parameters : Type 0
Parameters = List (Name × Sort)

-- a text that has to be the name of a parameter
abbrev pub parameter_named : Name → Tree → ReadModel (Unit {0})
parameter_named n (atom at k m) = require (is_named n k m) at BadShape
parameter_named n (list at ts end) = wrong at BadShape

-- the value that a parameter has by an equality: the parameter is on the left, a value of its sort on the right
unfoldable pub equality_read : Signature → Name × Sort → Tree → ReadModel Value
equality_read g p (list at (more (atom a k m) (more x (more v none))) end) =
    require (is_named (codes "=") k m) at BadShape >>= λ equality.
    parameter_named p.0 x >>= λ named.
    value_read g p.1 v
equality_read g p t = wrong (offset_of t) BadShape

-- the values of parameters by as many equalities, in their order
unfoldable pub equalities_read : Signature → Parameters → Trees → ReadModel (List Value)
equalities_read g (p ∷ ps) (more t ts) =
    equality_read g p t >>= λ v.
    equalities_read g ps ts >>= λ vs.
    Ok (v ∷ vs)
equalities_read g ps ts = Ok []

-- the arguments of a row by its condition: an equality for one parameter, else the conjunction of one for each
unfoldable pub condition_read : Signature → Parameters → Tree → ReadModel (List Value)
condition_read g (p ∷ []) t = equality_read g p t >>= λ v. Ok (v ∷ [])
condition_read g ps (list at (more (atom a k m) ts) end) =
    require (is_named (codes "and") k m && tree_count ts == length ps) at BadShape >>= λ conjunction.
    equalities_read g ps ts
condition_read g ps t = wrong (offset_of t) BadShape

-- a row before those of a table
abbrev pub with_row : List Value → Value → Table → Table
with_row arguments v t = record { rows = record { arguments = arguments; value = v } ∷ t.rows; default = t.default }

-- a value for all arguments
abbrev pub everywhere : Value → Table
everywhere v = record { rows = []; default = v }

-- a table of a sort: a value, or where there are parameters a row before a table. Of a row the condition comes first,
-- then its value, and then the other rows
unfoldable pub body_read : Signature → Parameters → Sort → Tree → ReadModel Table
body_read g (p ∷ ps) s (list at (more (atom a k m) (more c (more v (more others none)))) end) =
    require (is_named (codes "ite") k m) at BadShape >>= λ row.
    condition_read g (p ∷ ps) c >>= λ arguments.
    value_read g s v >>= λ value.
    body_read g (p ∷ ps) s others >>= λ table.
    Ok (with_row arguments value table)
body_read g ps s t = value_read g s t >>= λ v. Ok (everywhere v)
