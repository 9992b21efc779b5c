use Rattle.std.proofs.Common.{◌-◌, ◌<◌, length, subst, sym, arith}
use Rattle.std.proofs.lemmas.Bool.Decides.{nat_tests}
use Rattle.simplex_bounds.specs.Kept.{bounds_of, LimitsFit}
use Rattle.simplex_bounds.specs.Held.{IsLeastCrossed}
use Rattle.simplex_bounds.proofs.Changes.{last_crossed}
use Rattle.simplex_bounds.proofs.held.Bounds.crossed.Goals as goal

pub returns-in-Some : goal.returns-in-Some
returns-in-Some c =
    let ls = c.self.inside.limits.items in
    let es = c.deref.result.now in
    let e = c.in-Some.entry.now in
    let some = c.in-Some.ensures.item in
    let there = some.0 in
    let full : 0 < length es = grind (arith, nat_tests) in
    let kept : LimitsFit ls es = subst (LimitsFit ls) (sym c.deref.ensures.value) c.self.invariant in
    let least = last_crossed ls es e (length es - 1) kept (omega (arith, full)) some.1 in
    rw (← c.self.view_is) (subst (λ es. IsLeastCrossed (bounds_of es) e.crossed) c.deref.ensures.value least)
