-- The first item of a tree tells where it ends.
use Rattle.std.proofs.Common.{◌≡◌, ◌<◌, ◌≤◌, ℕ, ◌+◌, List, length, get_or, refl, ap, ◌∙◌, arith}
use Rattle.spec_text.specs.declared.Kind.{Kind}
use Rattle.spec_text.specs.declared.Kind.TheVariants.{Numeral, Decimal, Text, Simple, Quoted, Reserved, Keyword}
use Rattle.spec_text.specs.Trees.{Tree, atom, list}
use Rattle.stream_scan.specs.Next.{word_size, end_of}
use Rattle.smt_sexpr.specs.declared.items.Item.{Item}
use Rattle.smt_sexpr.specs.Items.{IsWithin}
use Rattle.smt_sexpr.specs.Means.{flat}
use Rattle.sexpr_stream.specs.ItemEnds.{marks_around, item_end}

size_is : (k : Kind) (w : List ℕ) → length w + marks_around k ≡ word_size k w
size_is Numeral w = omega arith
size_is Decimal w = omega arith
size_is Text w = refl
size_is Simple w = omega arith
size_is Quoted w = refl
size_is Reserved w = omega arith
size_is Keyword w = refl

-- a tree has an item, and the first of them tells where it ends
pub first_item_ends : (t : Tree) (its : List Item) (d : Item) → its ≡ flat t → (0 < length its) × (item_end (get_or its 0 d) ≡ end_of t)
first_item_ends (atom at k w) its d e = (omega (arith, ap length e), ap (λ is. item_end (get_or is 0 d)) e ∙ ap (λ n. at + n) (size_is k w))
first_item_ends (list at ts end) its d e = (omega (arith, ap length e), ap (λ is. item_end (get_or is 0 d)) e)

-- it ends behind its first byte
pub ends_behind : (low high : ℕ) (t : Tree) → IsWithin low high t → low ≤ end_of t
ends_behind low high (atom at k w) h = omega (arith, h.0)
ends_behind low high (list at ts end) h = omega (arith, h.3)
