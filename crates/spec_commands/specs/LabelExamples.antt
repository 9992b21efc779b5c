-- Expressions with their labels.
use Rattle.std.specs.Prelude.{◌≡◌, refl, List, [], ◌∷◌, ◌++◌, Option, Some, None, codes}
use Rattle.spec_text.specs.Bytes.{Name}
use Rattle.spec_text.specs.Trees.{Trees, none, more}
use Rattle.spec_sorts.specs.Written.{trees_in}
use Rattle.spec_commands.specs.Labels.{label_of}
use Rattle.spec_commands.specs.OnLiterals.{commands_on_literals}

-- the label of each of these texts
abbrev pub labels_in : Trees → List (Option Name)
labels_in none = []
labels_in (more t ts) = label_of t ∷ labels_in ts

-- only the outermost `!` gives a label, the first of its names, with bars or without
pub labels : labels_in (trees_in (
    codes "p (not p) (! p :named a) (! (! p :named x) :pattern (p) :named a :named y) (and (! p :named a) q) "
    ++ codes "(! (let ((z p)) z) :named |let|) (! p :a named) ()"))
    ≡ None ∷ None ∷ Some (codes "a") ∷ Some (codes "a") ∷ None ∷ Some (codes "let") ∷ None ∷ None ∷ []
unfolding commands_on_literals
labels = refl
