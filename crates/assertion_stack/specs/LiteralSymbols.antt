-- The symbol of a negated literal.
use Rattle.std.specs.Prelude.{◌&&◌, Option, Some, codes}
use Rattle.std.specs.Str.{bytes_eq}
use Rattle.spec_text.specs.Shapes.{◌>>=◌, Word, is_symbol, passes, first_word, no_tree}
use Rattle.spec_text.specs.Trees.{Trees}

-- the symbol after `not`, where trees are these two and no more
unfoldable pub negated_symbol : Trees → Option Word
negated_symbol ts = do
  head ← first_word ts
  x ← first_word head.1
  end ← no_tree x.1
  fits ← passes (is_symbol head.0.kind && bytes_eq head.0.bytes (codes "not") && is_symbol x.0.kind)
  Some x.0
