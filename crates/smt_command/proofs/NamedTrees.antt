-- Lists of a name and one tree more.
use Rattle.std.proofs.Common.{◌≡◌, ◌&&◌, Bool, true, false, Some, refl, ap, ◌∙◌}
use Rattle.spec_text.specs.Trees.{Tree, Trees, atom, list, none, more}
use Rattle.spec_sorts.specs.Forms.{is_name, are_named}
use Rattle.smt_sexpr.specs.Items.{split_first}
use Rattle.smt_sexpr.proofs.Splitting.{split_more}
use Rattle.spec_commands.specs.Commands.{first_name}
use Rattle.smt_command.specs.Commands.{named_parts, is_named}

-- all are such lists where the first is one, and each of the others
first_named : (t : Tree) (ts : Trees) → are_named (more t ts) ≡ (is_named t && are_named ts)
unfolding named_parts first_name
first_named (atom at k n) ts = refl
first_named (list at none end) ts = refl
first_named (list at (more (list a us b) vs) end) ts = refl
first_named (list at (more (atom x k n) us) end) ts = go us (is_name k) refl
  where
    go : (us : Trees) (b : Bool) → is_name k ≡ b → are_named (more (list at (more (atom x k n) us) end) ts) ≡ (is_named (list at (more (atom x k n) us) end) && are_named ts)
    go none true e = rw e refl
    go none false e = rw e refl
    go (more u none) true e = rw e refl
    go (more u none) false e = rw e refl
    go (more u (more v vs)) true e = rw e refl
    go (more u (more v vs)) false e = rw e refl

-- the same of trees that were split
pub split_named : (ts us : Trees) (t : Tree) → Some (t, us) ≡ split_first ts → are_named ts ≡ (is_named t && are_named us)
split_named ts us t e = ap are_named (split_more ts us t e) ∙ first_named t us
