-- Bodies are printed row after row.
use Rattle.std.proofs.Common.{◌≡◌, ℕ, List, [], ◌∷◌, ◌++◌, refl, sym, ap, ◌∙◌, arith, append_assoc, append-nil}
use Rattle.std.specs.Prelude.{codes}
use Rattle.std.proofs.lemmas.Grind.{common_steps}
use Rattle.spec_text.specs.Printed.{printed}
use Rattle.spec_sorts.specs.Values.{Value, TableRow}
use Rattle.spec_models.specs.Values.{value_tree}
use Rattle.spec_models.specs.Models.{condition_tree, body_tree, body_front, body_back}

-- closing parentheses, one more at either end
back_push : (rows : List TableRow) → body_back rows ++ 41 ∷ [] ≡ 41 ∷ body_back rows
back_push [] = refl
back_push (r ∷ rs) = ap (λ (bytes : List ℕ). 41 ∷ bytes) (back_push rs)

pub printed_rows : (rows : List TableRow) (default : Value) → printed (body_tree rows default) ≡ body_front rows ++ printed (value_tree default) ++ body_back rows
printed_rows [] default = sym (append-nil (printed (value_tree default)))
printed_rows (r ∷ rs) default =
    let c = printed (condition_tree r.arguments) in
    let v = printed (value_tree r.value) in
    ap (λ rest. codes "(ite " ++ (c ++ 32 ∷ (v ++ 32 ∷ rest)) ++ 41 ∷ []) (printed_rows rs default)
    ∙ joined c v (body_front rs) (printed (value_tree default)) (body_back rs) (back_push rs)
  where
    joined : (c v f d b : List ℕ) → b ++ 41 ∷ [] ≡ 41 ∷ b
        → codes "(ite " ++ (c ++ 32 ∷ (v ++ 32 ∷ (f ++ d ++ b))) ++ 41 ∷ [] ≡ (codes "(ite " ++ c ++ codes " " ++ v ++ codes " " ++ f) ++ d ++ 41 ∷ b
    joined c v f d b e = grind (arith, common_steps, append_assoc, e)
