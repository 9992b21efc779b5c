-- The line by its pieces.
use Rattle.std.proofs.Common.{◌≡◌, ◌∙◌, sym, subst, List, ℕ, ◌++◌, append_assoc, decimal}
use Rattle.std.specs.Prelude.{codes, OnOk}
use Rattle.gen_script.specs.Scripts.{order}
use Rattle.gen_script.proofs.script.add_order.Goals as goal

pub returns : goal.returns
returns c =
    let lower : c.as_bytes.result.now ≡ decimal c.args.i = c.as_bytes.ensures.value ∙ c.format.ensures.text in
    let upper : c.as_bytes-2.result.now ≡ decimal c.args.j = c.as_bytes-2.ensures.value ∙ c.format-2.ensures.text in
    let first = codes "(assert (<= x" ++ decimal c.args.i in
    let end = codes "))\n" in
    let whole : order c.args.i c.args.j ≡ first ++ (codes " x" ++ (decimal c.args.j ++ end)) = append_assoc (first ++ codes " x") (decimal c.args.j) end ∙ append_assoc first (codes " x") (decimal c.args.j ++ end) in
    subst (λ (line : List ℕ). OnOk c.add.result (c.add.new.text.items ≡ c.args.text.now.items ++ line)) (sym whole)
    (subst (λ (a : List ℕ). OnOk c.add.result (c.add.new.text.items ≡ c.args.text.now.items ++ (codes "(assert (<= x" ++ (a ++ (codes " x" ++ (decimal c.args.j ++ end)))))) lower
    (subst (λ (b : List ℕ). OnOk c.add.result (c.add.new.text.items ≡ c.args.text.now.items ++ (codes "(assert (<= x" ++ (c.as_bytes.result.now ++ (codes " x" ++ (b ++ end)))))) upper c.add.ensures))
