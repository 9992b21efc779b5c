use Rattle.std.proofs.Common.{sym, ◌∙◌}
use Rattle.simplex_bounds.specs.Deltas.{pair_of}
use Rattle.simplex_bounds.proofs.Orders.{by_tilt, by_base, same_parts, other_parts}
use Rattle.simplex_bounds.proofs.deltas.less.Goals as goal

pub returns-then-eq : goal.returns-then-eq
returns-then-eq c =
    let a = c.args.a in
    let b = c.args.b in
    c.less.ensures ∙ sym (by_tilt (pair_of a) (pair_of b) (same_parts a.base b.base (sym c.eq.ensures ∙ c.if-eq.true)))

pub returns : goal.returns
returns c =
    let a = c.args.a in
    let b = c.args.b in
    c.less-2.ensures ∙ sym (by_base (pair_of a) (pair_of b) (other_parts a.base b.base (sym c.eq.ensures ∙ c.if-eq.false)))
