-- The walk along the list.
use Rattle.std.proofs.Common.{arith, ◌<◌, ◌∙◌, length, subst, ap, refl}
use Rattle.std.proofs.lemmas.List.{get_or_default}
use Rattle.clause_store.specs.Entries.{bare}
use Rattle.clause_store.specs.Watching.{PropagatesPart}
use Rattle.clause_store.proofs.Adding.{holds_on}
use Rattle.clause_store.proofs.QuietPairs.{goes_none, goes_on}
use Rattle.clause_store.proofs.Walking.{passed_none, passed_stays, moved_by, same_list, all_by}
use Rattle.clause_store.proofs.watched.Watched.walk_list.Goals as goal

pub places-init : goal.places-init
places-init c = record {
  watched = c.requires.watched;
  known = c.requires.known;
  fails = c.requires.fails;
  entries = refl;
  goes = goes_none _ _ _ _;
  passed = passed_none _ _ _ _;
}

pub returns-in_err-take_up-clause-goes : goal.returns-in_err-take_up-clause-goes
returns-in_err-take_up-clause-goes c =
    let g = c.take_up.ensures.goes in
    let goes = goes_on _ _ _ _ _ _ _ _ c.places.invariant.goes (subst (λ xs. PropagatesPart (bare xs) (length c.args.self.now.pairs.items) c.places.self.pairs.items c.take_up.new.self.pairs.items c.places.trail c.take_up.new.trail) c.places.invariant.entries
    (subst (λ n. PropagatesPart (bare c.places.self.entries.items) n c.places.self.pairs.items c.take_up.new.self.pairs.items c.places.trail c.take_up.new.trail) c.places.invariant.goes.paired g)) in
    goes

pub returns-in-Clash-clause-goes : goal.returns-in-Clash-clause-goes
returns-in-Clash-clause-goes c =
    let g = c.take_up.ensures.goes in
    let goes = goes_on _ _ _ _ _ _ _ _ c.places.invariant.goes (subst (λ xs. PropagatesPart (bare xs) (length c.args.self.now.pairs.items) c.places.self.pairs.items c.take_up.new.self.pairs.items c.places.trail c.take_up.new.trail) c.places.invariant.entries
    (subst (λ n. PropagatesPart (bare c.places.self.entries.items) n c.places.self.pairs.items c.take_up.new.self.pairs.items c.places.trail c.take_up.new.trail) c.places.invariant.goes.paired g)) in
    goes

pub places-preserved-in-Moved : goal.places-preserved-in-Moved
places-preserved-in-Moved c =
    let g = c.take_up.ensures.goes in
    let goes = goes_on _ _ _ _ _ _ _ _ c.places.invariant.goes (subst (λ xs. PropagatesPart (bare xs) (length c.args.self.now.pairs.items) c.places.self.pairs.items c.take_up.new.self.pairs.items c.places.trail c.take_up.new.trail) c.places.invariant.entries
    (subst (λ n. PropagatesPart (bare c.places.self.entries.items) n c.places.self.pairs.items c.take_up.new.self.pairs.items c.places.trail c.take_up.new.trail) c.places.invariant.goes.paired g)) in
    let lt : c.places.at < length c.places.list.items = omega (arith, c.places-test.true, c.len.ensures, c.places.list.ok.0) in
    record {
      watched = c.take_up.ensures.watched;
      known = rw (c.take_up.ensures.entries, g.advances.0.vars) c.places.invariant.known;
      fails = holds_on _ _ _ g.advances.0 _ c.places.invariant.fails;
      entries = c.take_up.ensures.entries ∙ c.places.invariant.entries;
      goes = goes;
      passed = moved_by c.places.self.pairs.items c.take_up.new.self.pairs.items c.places.self.index c.take_up.new.self.index c.places.list.items c.take_up.new.list.items c.places.at _ c.places.trail.literals c.take_up.new.trail.literals c.args.f
          (holds_on _ _ _ g.advances.0) lt c.places.invariant.watched.there c.take_up.ensures.watched.there (rw c.in-Moved.is at c.in_ok-take_up.ensures.looks) c.places.invariant.passed;
    }

pub places-preserved : goal.places-preserved
places-preserved c =
    let g = c.take_up.ensures.goes in
    let goes = goes_on _ _ _ _ _ _ _ _ c.places.invariant.goes (subst (λ xs. PropagatesPart (bare xs) (length c.args.self.now.pairs.items) c.places.self.pairs.items c.take_up.new.self.pairs.items c.places.trail c.take_up.new.trail) c.places.invariant.entries
    (subst (λ n. PropagatesPart (bare c.places.self.entries.items) n c.places.self.pairs.items c.take_up.new.self.pairs.items c.places.trail c.take_up.new.trail) c.places.invariant.goes.paired g)) in
    let looks = rw c.in-Stays.is at c.in_ok-take_up.ensures.looks in
    let lt : c.places.at < length c.places.list.items = omega (arith, c.places-test.true, c.len.ensures, c.places.list.ok.0) in
    record {
      watched = c.take_up.ensures.watched;
      known = rw (c.take_up.ensures.entries, g.advances.0.vars) c.places.invariant.known;
      fails = holds_on _ _ _ g.advances.0 _ c.places.invariant.fails;
      entries = c.take_up.ensures.entries ∙ c.places.invariant.entries;
      goes = goes;
      passed = rw (looks.0, same_list c.places.self.index c.take_up.new.self.index c.places.list.items c.take_up.new.list.items c.args.f c.places.invariant.watched.there c.take_up.ensures.watched.there looks.1)
          (passed_stays c.places.self.pairs.items c.places.list.items c.places.at c.index.result.now c.places.trail.literals c.take_up.new.trail.literals c.args.f (holds_on _ _ _ g.advances.0) (c.index.ensures ∙ get_or_default c.places.list.items c.places.at c.index.result.now 0 lt) looks.2 c.places.invariant.passed);
    }

pub take_up-requires-clause-number : goal.take_up-requires-clause-number
take_up-requires-clause-number c = c.index.ensures ∙ get_or_default c.places.list.items c.places.at c.index.result.now 0 (omega (arith, c.places-test.true, c.len.ensures, c.places.list.ok.0))

pub returns-clause-ends : goal.returns-clause-ends
returns-clause-ends c = all_by c.places.self.pairs.items c.places.self.index c.places.list.items c.places.at c.places.trail.literals c.args.f c.places.invariant.watched.there c.places.invariant.watched.index_by (omega (arith, c.places-test.false, c.len.ensures, c.places.list.ok.0)) c.places.invariant.passed

pub places-smaller : goal.places-smaller
places-smaller c =
    let looks = rw c.in-Stays.is at c.in_ok-take_up.ensures.looks in
    omega (arith, c.places-test.true, c.len.ensures, c.places.list.ok.0, ap length (same_list c.places.self.index c.take_up.new.self.index c.places.list.items c.take_up.new.list.items c.args.f c.places.invariant.watched.there c.take_up.ensures.watched.there looks.1))
