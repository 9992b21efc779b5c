use Rattle.std.proofs.Common.{rules, ◌≡◌, ◌∷◌}
use Rattle.tableau.specs.Entries.{rows_of}
use Rattle.tableau.specs.Pivots.{pivot_meant, changes_meant}
use Rattle.tableau.proofs.Changing.{changes_step, number_first, number_later}
use Rattle.tableau.proofs.pivots.changes_of.Goals as goal

pub add_change-requires-clause-low : goal.add_change-requires-clause-low
add_change-requires-clause-low c =
    let some : c.loop-k.rest.now ≡ c.in-Some.k.now ∷ c.in-Some.more.now = search rules in
    c.loop-k.invariant.low c.in-Some.k.now (number_first c.loop-k.rest.now c.in-Some.more.now c.in-Some.k.now some)

pub loop-k-preserved : goal.loop-k-preserved
loop-k-preserved c =
    let some : c.loop-k.rest.now ≡ c.in-Some.k.now ∷ c.in-Some.more.now = search rules in
    record {
      low = λ n h. c.loop-k.invariant.low n (number_later c.loop-k.rest.now c.in-Some.more.now c.in-Some.k.now n some h);
      same = changes_step (pivot_meant c.args.pivot.now) (rows_of c.args.rows.now) c.in-Some.k.now c.loop-k.rest.now c.in-Some.more.now (changes_meant c.loop-k.made.items) (changes_meant c.add_change.new.made.items) _
          some c.in_ok-add_change.ensures.ok c.loop-k.invariant.same;
    }
