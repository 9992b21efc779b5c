-- What was taken from the order, and what is decided.
use Rattle.std.proofs.Common.{Contains, subst, sym}
use Rattle.search_loop.specs.Waiting.{AreWaiting}
use Rattle.search_loop.proofs.SearchWaiting.{all_assigned, taken_chosen}
use Rattle.search_loop.proofs.decision.next_decision.Goals as goal

pub returns-in_default-clause-choice : goal.returns-in_default-clause-choice
returns-in_default-clause-choice c atoms h =
    let waits = c.variables.invariant.waiting atoms h in
    let held = c.args.trail.now.literals in
    (all_assigned atoms held c.variables.order waits c.in_default.ensures.0, subst (AreWaiting atoms held) (sym c.in_default.ensures.1) waits)

pub returns-in-Some-choice_of-clause-choice : goal.returns-in-Some-choice_of-clause-choice
returns-in-Some-choice_of-clause-choice c atoms h =
    let waits = c.variables.invariant.waiting atoms h in
    let held = c.args.trail.now.literals in
    let l = c.in-Some-choice_of.l in
    let is = c.in-Some-choice_of.ensures.0 in
    (subst (Contains atoms) (sym is) (waits.only c.in-Some.v c.in-Some.ensures.was_in), taken_chosen c.variables.order c.pop.new.self c.in-Some.v c.in-Some.ensures atoms held waits l is)
