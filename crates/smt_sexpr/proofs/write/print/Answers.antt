-- The item's tree is in the text, from its first token up to its last.
use Rattle.std.proofs.Common.{arith, ap, ◌∙◌}
use Rattle.smt_sexpr.proofs.Inner.{inner, tree_from}
use Rattle.smt_sexpr.proofs.write.print.Goals as goal

pub place-requires-clause-behind : goal.place-requires-clause-behind
place-requires-clause-behind g c =
    let i = inner _ _ _ c.args.item _ c.args.s.now.read c.requires in
    let first = ap (λ p. p.0) (rw c.items.ensures at c.ends_of-first.ensures ∙ i.ends) in
    omega (arith, first, i.low)

pub place-requires-clause-within : goal.place-requires-clause-within
place-requires-clause-within g c =
    let i = inner _ _ _ c.args.item _ c.args.s.now.read c.requires in
    let first = ap (λ p. p.0) (rw c.items.ensures at c.ends_of-first.ensures ∙ i.ends) in
    omega (arith, first, i.high)

pub returns : goal.returns
returns g c =
    let i = inner _ _ _ c.args.item _ c.args.s.now.read c.requires in
    let t = tree_from _ _ _ _ _ _ c.place.result.offset c.ends_of-first.result i c.text.ensures (rw c.items.ensures at c.ends_of-first.ensures) c.place.ensures.offset in
    rw i.means (c.write_tokens.ensures i.tree t)
