-- Where an item ends. Source: SMT-LIB 2.6, section 3.1.
use Rattle.std.specs.Prelude.{ℕ, ◌+◌}
use Rattle.spec_text.specs.declared.Kind.{Kind}
use Rattle.spec_text.specs.declared.Kind.TheVariants.{Text, Quoted, Keyword}
use Rattle.smt_sexpr.specs.declared.items.Item.{Item}
use Rattle.smt_sexpr.specs.declared.items.Item.TheVariants as items

-- how many bytes stand around a word's own: two quotes, two bars or a colon
abbrev pub marks_around : Kind → ℕ
marks_around Text = 2
marks_around Quoted = 2
marks_around Keyword = 1
marks_around _ = 0

-- the offset right after the last byte of an item, a list's with all that is in it
abbrev pub item_end : Item → ℕ
item_end (items.Atom k at size) = at + (size + marks_around k)
item_end (items.List at end count) = end + 1
