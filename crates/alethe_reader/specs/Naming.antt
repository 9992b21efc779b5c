-- The names that `:named` gives in texts, as they are looked for.
use Rattle.std.specs.Prelude.{◌≡◌, ℕ, ◌+◌, Bool, false, ◌||◌, List, [], ◌∷◌}
use Rattle.spec_text.specs.Shapes.{Word}
use Rattle.spec_checking.specs.Reading.{named_in_all, one_is_at, fault_among}
use Rattle.smt_sexpr.specs.declared.items.Trees.{Trees as Cursor}
use Rattle.smt_sexpr.specs.Items.{trees_meant}
use Rattle.term_reader.specs.declared.faults.ReadError.{ReadError}
use Rattle.term_reader.specs.declared.faults.ReadError.TheVariants as reading
use Rattle.term_reader.specs.Names.{located_of}
use Rattle.sort_check.specs.Walks.{sizes}
use Rattle.alethe_reader.specs.declared.errors.CommandError.{CommandError}
use Rattle.alethe_reader.specs.declared.errors.CommandError.TheVariants as errors
use Rattle.alethe_reader.specs.Reads.{located_view}

-- a name that is given in one of these rows of texts is at an offset
abbrev pub one_open_at : ℕ → List Cursor → Bool
one_open_at at [] = false
one_open_at at (c ∷ cs) = one_is_at (named_in_all (trees_meant c)) at || one_open_at at cs

-- how large these rows of texts are: each counts for itself too
abbrev pub open_left : List Cursor → ℕ
open_left [] = 0
open_left (c ∷ cs) = 1 + sizes (trees_meant c) + open_left cs

-- what an error of reading texts is in a proof, where words are the names that are given to terms in them; memory may
-- run out besides
abbrev pub IsErrorAmong : List Word → ReadError → CommandError → Type 0
IsErrorAmong words (reading.Fault f) (errors.Fault g) = located_view g ≡ fault_among words (located_of f)
IsErrorAmong words reading.Memory (errors.Fault g) = ⊥
IsErrorAmong words stop errors.Memory = Unit {0}
