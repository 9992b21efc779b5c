-- The new row ends where the bytes do.
use Rattle.std.proofs.Common.{[], ◌∷◌, ◌++◌, length, sym, ap, ◌∙◌, subst, arith}
use Rattle.assertion_stack.specs.Rows.{rows_from, AreEnds}
use Rattle.assertion_stack.proofs.RowEnds.{row_added, ends_added}
use Rattle.assertion_stack.proofs.rows.Rows.add.Goals as goal

pub invariant_of-self-2 : goal.invariant_of-self-2
invariant_of-self-2 c =
    let new = c.put.new.bytes in
    let ends = c.push_reserved.ensures.items ∙ ap (λ es. es ++ c.len.result ∷ []) c.reserve.ensures.items in
    subst (λ es. AreEnds 0 es (length new.items)) (sym ends)
    (ends_added c.self.inside.bytes.items new.items (c.args.first.now ++ c.args.second.now) c.self.inside.ends.items c.self.invariant c.in_default.ensures.added c.len.result (omega (arith, c.len.ensures, new.ok.0)))

pub returns-clause-added : goal.returns-clause-added
returns-clause-added c =
    let new = c.put.new.bytes in
    let ends = c.push_reserved.ensures.items ∙ ap (λ es. es ++ c.len.result ∷ []) c.reserve.ensures.items in
    ap (rows_from new.items 0) ends
    ∙ row_added c.self.inside.bytes.items new.items (c.args.first.now ++ c.args.second.now) c.self.inside.ends.items c.self.invariant c.in_default.ensures.added c.len.result (omega (arith, c.len.ensures, new.ok.0))
    ∙ ap (λ rs. rs ++ (c.args.first.now ++ c.args.second.now) ∷ []) c.self.view_is
