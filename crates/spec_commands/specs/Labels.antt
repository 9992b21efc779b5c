-- Names that are given to terms, and the label of an asserted or assumed expression. Source: SMT-LIB 2.6, sections 3.6
-- and 4.2.5.
use Rattle.std.specs.Prelude.{List, [], ◌∷◌, Option, Some, None}
use Rattle.spec_text.specs.Bytes.{Name}
use Rattle.spec_text.specs.Shapes.{Word}
use Rattle.spec_text.specs.Trees.{Tree, Trees, atom, list, more}
use Rattle.spec_sorts.specs.Forms.{annotates, form, a_keyword, named_words}

-- the names that `:named` gives to the term of a list, where that is one with attributes
abbrev pub names_given : Trees → List Word
names_given (more head (more t attributes)) =
    elim (form head (more t attributes)) [ annotates ↦ named_words a_keyword attributes | _ ↦ [] ]
names_given ts = []

-- the name that the first of words is
abbrev pub first_name_of : List Word → Option Name
first_name_of [] = None
first_name_of (w ∷ ws) = Some w.bytes

-- the label of an expression: the first name that it gets, where its whole text is a term with attributes
abbrev pub label_of : Tree → Option Name
label_of (atom at k n) = None
label_of (list at ts end) = first_name_of (names_given ts)
