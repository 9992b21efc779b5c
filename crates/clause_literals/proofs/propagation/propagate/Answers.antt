-- That it goes on to the end.
use Rattle.clause_literals.proofs.Advancing.{refuted_on, advances_on}
use Rattle.clause_literals.proofs.Stepping.{begun_counted, begun_tracked}
use Rattle.clause_literals.proofs.propagation.propagate.Goals as goal

pub take_out_each-requires : goal.take_out_each-requires
take_out_each-requires c =
    let begun = rw c.in-Some.is at c.in_ok-left.ensures in
    record {
      counted = begun_counted c.args.premises.now _ _ _ _ c.deref_mut.ensures.value begun;
      once = c.requires.once;
      index = c.in_ok-occurrences.ensures;
      consistent = begun.advances.consistent c.requires.consistent;
      tracked = begun_tracked c.args.premises.now _ _ _ _ c.deref_mut.ensures.value begun;
    }

pub returns-then-branch : goal.returns-then-branch
returns-then-branch c =
    let begun = rw c.in-Some.is at c.in_ok-left.ensures in
    let refuted = rw c.if-branch.true at c.in_ok-take_out_each.ensures in
    refuted_on _ _ _ begun.advances refuted

pub returns : goal.returns
returns c =
    let begun = rw c.in-Some.is at c.in_ok-left.ensures in
    let quiet = rw c.if-branch.false at c.in_ok-take_out_each.ensures in
    record { advances = advances_on _ _ _ _ begun.advances quiet.advances; inert = quiet.inert }
