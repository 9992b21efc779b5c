-- One more is fetched.
use Rattle.std.proofs.Common.{◌≡◌, ◌+◌, ◌<◌, length, subst, ◌∙◌, arith}
use Rattle.linear_form.specs.Walks.{HoldsUsed}
use Rattle.linear_form.proofs.ReadyForms.{known_more}
use Rattle.linear_form.proofs.slots.fetch_all.Goals as goal

pub uses-preserved : goal.uses-preserved
uses-preserved c =
    let order = c.args.plan.now.order.items in
    let uses = c.args.plan.now.uses.items in
    let tick = c.args.first + c.uses.done in
    let lt : tick < length uses = omega (arith, c.requires.tick, c.uses-test.true) in
    let next : tick + 1 ≡ c.args.first + (c.uses.done + 1) = omega arith in
    record {
      len = c.fetch.ensures.len ∙ c.uses.invariant.len;
      ready = λ t h. subst (HoldsUsed t order c.args.plan.now.last.items c.fetch.new.slots.items) next (c.in_ok-known.ensures.ready t (c.uses.invariant.ready t h));
      known = λ t h. known_more t order uses c.args.first c.uses.done tick c.uses.found.items c.push.new.self.items c.in_ok-known.known (omega arith) lt c.in_ok-push.ensures.items (c.in_ok-known.ensures.known t (c.uses.invariant.ready t h)) (c.uses.invariant.known t h);
    }

pub fetch-requires-clause-ready : goal.fetch-requires-clause-ready
fetch-requires-clause-ready c = (c.requires.ready.0, c.uses.invariant.ready c.requires.ready.0 c.requires.ready.1)

pub returns-clause-ready : goal.returns-clause-ready
returns-clause-ready c t h j lt le = c.uses.invariant.ready t h j lt (omega (arith, le, c.uses.auto.done-end))
