-- What the parameters, rows and bodies of the code mean.
use Rattle.std.specs.Prelude.{◌≡◌, ℕ, List, [], ◌∷◌, ◌++◌, Result, Ok, Err, codes}
use Rattle.spec_text.specs.Answers.{◌>>=◌}
use Rattle.spec_text.specs.Bytes.{Name}
use Rattle.spec_text.specs.Trees.{Tree}
use Rattle.spec_text.specs.Shapes.{is_word}
use Rattle.spec_sorts.specs.Terms.{Sort}
use Rattle.spec_sorts.specs.Values.{Value, TableRow, Table}
use Rattle.spec_sorts.specs.Signatures.{Signature}
use Rattle.spec_model_files.specs.declared.ModelKind.TheVariants.{BadShape}
use Rattle.spec_model_files.specs.Faults.{ReadModel, require}
use Rattle.spec_model_files.specs.Values.{value_read}
use Rattle.spec_model_files.specs.Bodies.{Parameters, parameter_named, condition_read}
use Rattle.spec_model_files.specs.Bodies.{with_row}
use Rattle.term_walks.specs.declared.values.ValueRow.{ValueRow}
use Rattle.term_walks.specs.Valuations.{row_meant}
use Rattle.model_read.specs.declared.errors.ReadError.{ReadError}
use Rattle.model_read.specs.declared.errors.ReadError.TheVariants as errors
use Rattle.model_read.specs.Answers.{located_view}
use Rattle.model_read.specs.Shapes.{RowParts}

-- names with their sorts, in order
abbrev pub named_sorts : List Name → List Sort → Parameters
named_sorts (n ∷ ns) (s ∷ ss) = (n, s) ∷ named_sorts ns ss
named_sorts _ _ = []

-- what is read of the two sides of an equality
unfoldable pub equality_by : Signature → Name × Sort → Tree × Tree → ReadModel Value
equality_by g p sides = parameter_named p.0 sides.0 >>= λ named. value_read g p.1 sides.1

-- what is read of a row in a list at an offset, before what is read of the other rows
unfoldable pub row_by : Signature → Parameters → Sort → ℕ → RowParts → ReadModel Table → ReadModel Table
row_by g ps s at r others =
    require (is_word (codes "ite") r.word) at BadShape >>= λ row.
    condition_read g ps r.condition >>= λ arguments.
    value_read g s r.value >>= λ value.
    others >>= λ table.
    Ok (with_row arguments value table)

-- values before those that are read
abbrev pub with_values : {A : Type 0} → List A → ReadModel (List A) → ReadModel (List A)
with_values xs (Ok ys) = Ok (xs ++ ys)
with_values xs (Err f) = Err f

-- rows before those of a table that is read
abbrev pub with_rows : List TableRow → ReadModel Table → ReadModel Table
with_rows rs (Ok t) = Ok (record { rows = rs ++ t.rows; default = t.default })
with_rows rs (Err f) = Err f

-- a row was read before what is read of others, or has this fault, unless memory ran out
abbrev pub ReadsRow : List Name → Result ValueRow ReadError → (ReadModel Table → ReadModel Table) → Type 0
ReadsRow sorts (Ok r) before = (others : ReadModel Table) → before others ≡ with_rows (row_meant sorts r ∷ []) others
ReadsRow sorts (Err (errors.Fault f)) before = (others : ReadModel Table) → before others ≡ Err (located_view f)
ReadsRow sorts (Err errors.Memory) before = Unit {0}
