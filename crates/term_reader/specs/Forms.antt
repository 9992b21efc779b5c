-- What the values mean that looking at shapes gives, and shapes item by item. Source: SMT-LIB 2.6, section 3.6.
use Rattle.std.specs.Prelude.{Option, Some, None}
use Rattle.spec_text.specs.declared.Kind.{Kind}
use Rattle.spec_text.specs.declared.Kind.TheVariants.{Keyword}
use Rattle.spec_text.specs.Trees.{Tree, atom, list}
use Rattle.spec_text.specs.Bytes.{Name}
use Rattle.spec_text.specs.Shapes.{Word, ◌>>=◌, inside_of, first_word, only_tree, passes, only_if}
use Rattle.spec_sorts.specs.Forms.{Form, malformed, reserved, applies, binds, annotates, is_name, Next, a_keyword}
use Rattle.spec_sorts.specs.Forms.{a_value, a_name, after_keyword}
use Rattle.smt_sexpr.specs.declared.items.Trees.{Trees as Cursor}
use Rattle.smt_sexpr.specs.declared.shapes.Word as code
use Rattle.smt_sexpr.specs.Items.{tree_meant}
use Rattle.smt_sexpr.specs.Views.{word_view}
use Rattle.term_reader.specs.declared.forms.ListForm.{ListForm as FormCode}
use Rattle.term_reader.specs.declared.forms.ListForm.TheVariants as forms
use Rattle.term_reader.specs.declared.attributes.NextAttribute.{NextAttribute as NextCode}
use Rattle.term_reader.specs.declared.attributes.NextAttribute.TheVariants as nexts

-- a form of the code
abbrev pub form_meant : FormCode → Form
form_meant forms.Malformed = malformed
form_meant (forms.Reserved at) = reserved at
form_meant (forms.Applies at name) = applies at name.now
form_meant forms.Binds = binds
form_meant forms.Annotates = annotates

-- what may come next
abbrev pub next_meant : NextCode → Next
next_meant nexts.Keyword = a_keyword
next_meant nexts.Value = a_value
next_meant nexts.Name = a_name

-- a word, and the tree after it
abbrev pub word_tree : code.Word × Cursor → Word × Tree
word_tree x = (word_view x.0, tree_meant x.1)

-- a list of a name and one tree more
unfoldable pub binding_in : Tree → Option (Word × Tree)
binding_in t = inside_of t >>= λ l. first_word l.1 >>= λ w. only_tree w.1 >>= λ value. passes (is_name w.0.kind)
    >>= λ named. Some (w.0, value)

-- what may come after an atom
abbrev pub after_atom : Next → Kind → Name → Option Next
after_atom a_name k n = only_if (is_name k) a_keyword
after_atom next Keyword n = Some (after_keyword n)
after_atom a_value k n = Some a_keyword
after_atom a_keyword k n = None

-- what may come after a list
abbrev pub after_list : Next → Option Next
after_list a_value = Some a_keyword
after_list next = None

-- what may come after an item among attributes, where the item may are there
abbrev pub next_after : Next → Tree → Option Next
next_after next (atom at k n) = after_atom next k n
next_after next (list at us end) = after_list next
