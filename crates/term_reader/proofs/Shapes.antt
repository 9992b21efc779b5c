-- Shapes item by item.
use Rattle.std.proofs.Common.{◌≡◌, Bool, true, false, ◌&&◌, Some, None, refl}
use Rattle.spec_text.specs.Trees.{Tree, Trees, atom, list, none, more}
use Rattle.spec_text.specs.Shapes.{Word, ◌>>=◌, passes}
use Rattle.spec_sorts.specs.Forms.{is_name, are_named}
use Rattle.term_reader.specs.Forms.{binding_in}

-- a list that is no binding
pub named_none : (t : Tree) (ts : Trees) → None ≡ binding_in t → are_named (more t ts) ≡ false
unfolding binding_in
named_none (atom at k n) ts e = refl
named_none (list at none end) ts e = refl
named_none (list at (more (list a us b) vs) end) ts e = refl
named_none (list at (more (atom x k n) none) end) ts e = refl
named_none (list at (more (atom x k n) (more t (more u us))) end) ts e = refl
named_none (list at (more (atom x k n) (more t none)) end) ts e = go (is_name k) e
  where
    both : Word × Tree
    both = (record { at = x; kind = k; bytes = n }, t)

    go : (b : Bool) → None ≡ (passes b >>= λ named. Some both) → (b && are_named ts) ≡ false
    go true h = cc
    go false h = refl

-- a binding before others
pub named_some : (t : Tree) (ts : Trees) (x : Word × Tree) → Some x ≡ binding_in t → are_named (more t ts) ≡ are_named ts
unfolding binding_in
named_some (atom at k n) ts y e = cc
named_some (list at none end) ts y e = cc
named_some (list at (more (list a us b) vs) end) ts y e = cc
named_some (list at (more (atom x k n) none) end) ts y e = cc
named_some (list at (more (atom x k n) (more t (more u us))) end) ts y e = cc
named_some (list at (more (atom x k n) (more t none)) end) ts y e = go (is_name k) e
  where
    both : Word × Tree
    both = (record { at = x; kind = k; bytes = n }, t)

    go : (b : Bool) → Some y ≡ (passes b >>= λ named. Some both) → (b && are_named ts) ≡ are_named ts
    go true h = refl
    go false h = cc
