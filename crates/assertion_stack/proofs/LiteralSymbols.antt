-- The symbol of a literal, by the trees that it is in.
use Rattle.std.proofs.Common.{◌≡◌, ℕ, Bool, true, false, ◌&&◌, Some, refl}
use Rattle.std.specs.Prelude.{codes}
use Rattle.std.specs.Str.{bytes_eq}
use Rattle.spec_text.specs.Shapes.{◌>>=◌, Word, is_symbol, passes}
use Rattle.spec_text.specs.Trees.{Trees, atom, list, none, more}
use Rattle.spec_commands.specs.Literals.{symbol_if, literal_symbol}
use Rattle.assertion_stack.specs.LiteralSymbols.{negated_symbol}

if_passes : (b : Bool) (x : Word) → (passes b >>= λ fits. Some x) ≡ symbol_if b x
if_passes true x = refl
if_passes false x = refl

-- the symbol after `not`, by the list that it is in
pub symbol_in_list : (at : ℕ) (ts : Trees) (end : ℕ) → negated_symbol ts ≡ literal_symbol (list at ts end)
unfolding negated_symbol
symbol_in_list at none end = refl
symbol_in_list at (more (list x us f) ts) end = refl
symbol_in_list at (more (atom place j m) none) end = refl
symbol_in_list at (more (atom place j m) (more (list x us f) ts)) end = refl
symbol_in_list at (more (atom place j m) (more (atom x k n) (more u us))) end = refl
symbol_in_list at (more (atom place j m) (more (atom x k n) none)) end = if_passes (is_symbol j && bytes_eq m (codes "not") && is_symbol k) (record { at = x; kind = k; bytes = n })
