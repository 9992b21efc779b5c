-- What a list in a term is, by its shape alone. Source: SMT-LIB 2.6, section 3.6.
use Rattle.std.specs.Prelude.{ℕ, Bool, true, false, not, ◌&&◌, ◌||◌, List, [], ◌∷◌, codes, if◌then◌else◌}
use Rattle.std.specs.Str.{bytes_eq}
use Rattle.spec_text.specs.declared.Kind.{Kind}
use Rattle.spec_text.specs.declared.Kind.TheVariants.{Simple, Quoted, Reserved, Keyword}
use Rattle.spec_text.specs.Bytes.{Name}
use Rattle.spec_text.specs.Trees.{Tree, Trees, atom, list, none, more}
use Rattle.spec_text.specs.Shapes.{Word, is_symbol, is_reserved}

-- The shapes of a list.
pub data Form : Type 0 where
  -- no term is written so
  malformed : Form
  -- a reserved word as its head: the offset of the word
  reserved : ℕ → Form
  -- a symbol as its head, with arguments: the offset of the symbol, and its name
  applies : ℕ → Name → Form
  -- `let`, with bindings and a body
  binds : Form
  -- `!`, with a term and attributes
  annotates : Form

-- no trees
abbrev pub is_empty : Trees → Bool
is_empty none = true
is_empty (more t ts) = false

-- what may be where a new name is wanted: a symbol, or a reserved word, which is refused later
abbrev pub is_name : Kind → Bool
is_name k = is_symbol k || is_reserved k

-- each tree is a list of a name and one tree more
abbrev pub are_named : Trees → Bool
are_named none = true
are_named (more (list at (more (atom x k n) (more t none)) end) rest) = is_name k && are_named rest
are_named (more t rest) = false

-- one or more bindings, and a body
abbrev pub is_let : Trees → Bool
is_let (more (list at bindings end) (more body none)) = not (is_empty bindings) && are_named bindings
is_let us = false

-- What may come next among attributes.
pub data Next : Type 0 where
  -- a keyword alone
  a_keyword : Next
  -- a keyword, or the value of the one before
  a_value : Next
  -- a name alone
  a_name : Next

-- after a keyword comes a value at most, and a name after `:named`
abbrev pub after_keyword : Name → Next
after_keyword k = if bytes_eq k (codes "named") then a_name else a_value

-- an atom among attributes, before the test of those after it, by what may come next
abbrev pub atom_fits : Next → Kind → Bool → Bool → Bool
atom_fits a_name k keyword value = is_name k && value
atom_fits next Keyword keyword value = keyword
atom_fits a_value k keyword value = value
atom_fits a_keyword k keyword value = false

-- a list as an attribute's value
abbrev pub list_fits : Next → Bool → Bool
list_fits a_value rest = rest
list_fits next rest = false

-- attributes: keywords, each with one value at most, and a name after each `:named`
abbrev pub are_attributes : Next → Trees → Bool
are_attributes a_name none = false
are_attributes next none = true
are_attributes next (more (atom at k n) rest) =
    atom_fits next k (are_attributes (after_keyword n) rest) (are_attributes a_keyword rest)
are_attributes next (more (list at ts end) rest) = list_fits next (are_attributes a_keyword rest)

-- a term and one or more attributes
abbrev pub is_annotated : Trees → Bool
is_annotated none = false
is_annotated (more t attributes) = not (is_empty attributes) && are_attributes a_keyword attributes

-- the names that `:named` gives among attributes, in their order
abbrev pub named_words : Next → Trees → List Word
named_words next none = []
named_words a_name (more (atom at k n) rest) = record { at = at; kind = k; bytes = n } ∷ named_words a_keyword rest
named_words next (more (atom at Keyword n) rest) = named_words (after_keyword n) rest
named_words next (more t rest) = named_words a_keyword rest

-- a reserved word before others: `let` and `!` have a shape of their own
abbrev pub word_form : ℕ → Name → Trees → Form
word_form at n us =
    if bytes_eq n (codes "let") then (if is_let us then binds else malformed)
    else if bytes_eq n (codes "!") then (if is_annotated us then annotates else malformed)
    else reserved at

-- an atom before others, by its kind
abbrev pub head_form : ℕ → Kind → Name → Trees → Form
head_form at Simple n us = applies at n
head_form at Quoted n us = applies at n
head_form at Reserved n us = word_form at n us
head_form at k n us = malformed

-- a list by its first item and the others: there is one other at least
abbrev pub form : Tree → Trees → Form
form head none = malformed
form (atom at k n) (more t ts) = head_form at k n (more t ts)
form (list at us end) (more t ts) = malformed
