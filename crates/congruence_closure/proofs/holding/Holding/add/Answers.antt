-- There are more entries, and room for two literals of each.
use Rattle.std.proofs.Common.{length, arith, ap, subst, ◌≤◌, ◌*◌}
use Rattle.std.specs.Prelude.{vec_capacity}
use Rattle.congruence_closure.specs.Tables.{AreGrown}
use Rattle.congruence_closure.proofs.Denials.{denials_grown}
use Rattle.congruence_closure.proofs.holding.Holding.add.Goals as goal

pub invariant_of-self-2 : goal.invariant_of-self-2
invariant_of-self-2 c =
    let grown = subst (λ xs. AreGrown xs c.grow.new.numbers.items) c.in_ok-reserve-2.ensures.items c.grow.ensures.kept in
    let room : 2 * length c.grow.new.numbers.items ≤ vec_capacity c.reserve.new.self = omega (arith, c.grow.ensures.few, ap length c.in_ok-reserve-2.ensures.items, c.in_ok-reserve.ensures.ok, c.self.inside.denials.ok.0) in
    rw c.in_ok-reserve.ensures.items
    (denials_grown c.self.inside.held.items c.self.inside.denials.items c.grow.new.numbers.items (vec_capacity c.self.inside.held) (vec_capacity c.reserve.new.self) c.self.invariant grown room)
