-- What is used is there, and what is used again stays.
use Rattle.linear_form.proofs.ReadyForms.{ready_here, ready_next, p_fits}
use Rattle.linear_form.proofs.slots.fetch.Goals as goal

pub copied-requires : goal.copied-requires
copied-requires c =
    let here = ready_here c.requires.ready.0 c.args.plan.now.order.items c.args.plan.now.last.items c.args.plan.now.uses.items c.args.slots.now.items c.args.tick c.index-place.result.now c.requires.ready.1 c.requires.last c.requires.tick c.index-place.ensures c.requires.place in
    record { there = (c.requires.ready.0, here.0, here.1) }

pub taken-requires : goal.taken-requires
taken-requires c =
    let here = ready_here c.requires.ready.0 c.args.plan.now.order.items c.args.plan.now.last.items c.args.plan.now.uses.items c.args.slots.now.items c.args.tick c.index-place.result.now c.requires.ready.1 c.requires.last c.requires.tick c.index-place.ensures c.requires.place in
    record { there = (c.requires.ready.0, here.0, here.1) }

pub returns-clause-ready : goal.returns-clause-ready
returns-clause-ready c t ready =
    ready_next t c.args.plan.now.order.items c.args.plan.now.last.items c.args.plan.now.uses.items c.args.slots.now.items c.taken.new.slots.items c.args.tick c.index-place.result.now c.index.result.now
    ready c.if-index-tick.false c.index.ensures (p_fits c.args.plan.now.uses.items c.args.tick c.index-place.result.now _ _ c.requires.tick c.index-place.ensures c.requires.place c.requires.len) c.taken.ensures.len (c.taken.ensures.others t)
