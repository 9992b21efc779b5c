-- What is left to print of a tree, where lists of it are open, and what stays of what was printed before.
use Rattle.std.specs.Prelude.{◌≡◌, ℕ, ◌+◌, List, [], ◌∷◌, ◌++◌, length, take}
use Rattle.spec_text.specs.Trees.{Trees, none, more}
use Rattle.spec_text.specs.Printed.{printed_all}
use Rattle.smt_sexpr.specs.declared.items.Trees.{Trees as Cursor}
use Rattle.smt_sexpr.specs.Items.{trees_meant}
use Rattle.sort_check.specs.Walks.{sizes}

-- trees after another in a list, with the space before them
abbrev pub printed_after : Trees → List ℕ
printed_after none = []
printed_after (more t ts) = 32 ∷ printed_all (more t ts)

-- what follows the innermost of open lists: each ends, the innermost last, and these trees come after it
abbrev pub printed_open : List Cursor → List ℕ
printed_open [] = []
printed_open (c ∷ cs) = printed_open cs ++ (41 ∷ printed_after (trees_meant c))

-- how large these trees are: each list counts for itself too
abbrev pub open_left : List Cursor → ℕ
open_left [] = 0
open_left (c ∷ cs) = 1 + sizes (trees_meant c) + open_left cs

-- what was there is still there, before what comes after it
abbrev pub KeepsFront : List ℕ → List ℕ → Type 0
KeepsFront old new = take (length old) new ≡ old
