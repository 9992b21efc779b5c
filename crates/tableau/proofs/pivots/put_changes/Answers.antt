use Rattle.std.proofs.Common.{◌<◌, length, set, refl, arith}
use Rattle.tableau.specs.Pivots.{changes_meant}
use Rattle.tableau.proofs.Changing.{popped, put_one, numbered_same}
use Rattle.tableau.proofs.pivots.put_changes.Goals as goal

pub index_mut-requires : goal.index_mut-requires
index_mut-requires c = let low = (popped (λ k. k < length c.loop-change.rows.items) c.loop-change.left.items c.pop.new.self.items c.in-Some.change c.in-Some.ensures.items c.loop-change.invariant.low).1 in omega (arith, low)

pub loop-change-preserved : goal.loop-change-preserved
loop-change-preserved c =
    let rows = c.loop-change.rows.items in
    let change = c.in-Some.change in
    record {
      low = numbered_same rows (set rows change.number change.row) change.number change.row (changes_meant c.pop.new.self.items) refl
          (popped (λ k. k < length rows) c.loop-change.left.items c.pop.new.self.items change c.in-Some.ensures.items c.loop-change.invariant.low).0;
      same = put_one (λ k. k < length rows) c.loop-change.left.items c.pop.new.self.items change c.in-Some.ensures.items rows (set rows change.number change.row) _ refl c.loop-change.invariant.same;
    }
