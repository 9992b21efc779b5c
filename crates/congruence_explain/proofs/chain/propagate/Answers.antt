-- One premise more.
use Rattle.std.proofs.Common.{refl}
use Rattle.clause_literals.specs.Literals.{lists}
use Rattle.congruence_explain.proofs.Traced.{traced_none, traced_to, traced_spent, traced_more, traced_all}
use Rattle.congruence_explain.proofs.chain.propagate.Goals as goal

pub steps-init : goal.steps-init
steps-init c = traced_none (lists c.args.premises.items) c.args.held.now c.args.implied.items c.requires.none

pub returns-in_default-open : goal.returns-in_default-open
returns-in_default-open c =
    let found = rw c.deref.ensures.value at c.in-Some.ensures in
    traced_to (lists c.args.premises.items) c.args.held.now c.steps.held c.steps.implied.items c.steps.waiting.items c.steps.invariant c.in-Some.found.at c.remove-clause.result found.0 c.remove-clause.ensures.value c.remove-clause.new.self.items c.remove-clause.ensures.items (rw c.in_default-open.is at found.1)

pub steps-preserved-then-contains : goal.steps-preserved-then-contains
steps-preserved-then-contains c =
    let found = rw c.deref.ensures.value at c.in-Some.ensures in
    traced_spent (lists c.args.premises.items) c.args.held.now c.steps.held c.steps.implied.items c.steps.waiting.items c.steps.invariant c.in-Some.found.at c.remove-clause.result found.0 c.remove-clause.ensures.value c.remove-clause.new.self.items c.remove-clause.ensures.items c.in-Some-open.l (rw c.in-Some-open.is at found.1) c.if-contains.ensures

pub steps-preserved : goal.steps-preserved
steps-preserved c =
    let found = rw c.deref.ensures.value at c.in-Some.ensures in
    traced_more (lists c.args.premises.items) c.args.held.now c.steps.held c.steps.implied.items c.steps.waiting.items c.steps.invariant c.in-Some.found.at c.remove-clause.result found.0 c.remove-clause.ensures.value c.remove-clause.new.self.items c.remove-clause.ensures.items c.in-Some-open.l (rw c.in-Some-open.is at found.1)
    c.add.new.self c.in_ok-add.ensures c.if-contains.ensures (record { literal = c.in-Some-open.l; clause = c.remove-clause.result }) refl refl c.push.new.self.items c.in_ok-push.ensures.items

pub returns : goal.returns
returns c = λ refuted. traced_all (lists c.args.premises.items) c.args.held.now c.steps.held c.steps.implied.items c.steps.waiting.items c.steps.invariant c.args.table.now c.ids_are_unique.ensures refuted (rw c.deref.ensures.value at c.in_default.ensures)
