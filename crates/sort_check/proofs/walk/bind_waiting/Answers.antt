-- The names that waited are bound.
use Rattle.std.proofs.Common.{◌-◌, arith}
use Rattle.sort_check.specs.Bindings.{no_id}
use Rattle.sort_check.proofs.Binding.{binding_begins, binding_goes_on, binding_ends}
use Rattle.sort_check.proofs.walk.bind_waiting.Goals as goal

pub names-init : goal.names-init
names-init c = binding_begins c.args.from c.args.waiting.now c.args.bound.now c.requires c.each_name_has_a_term.ensures

pub names-preserved : goal.names-preserved
names-preserved c =
    let v = c.args.waiting.now in
    let b = c.args.bound.now in
    let k = c.len-last.result - 1 in
    rw (c.back.ensures, c.in_ok-push.ensures.added)
    (binding_goes_on c.args.from v b c.names.waiting c.names.bound k c.name.result.now c.term.result no_id c.names.invariant c.each_name_has_a_term.ensures (omega (arith, c.names-test.true, c.len.ensures)) (omega (arith, c.len-last.ensures, c.len.ensures, c.names-test.true)) c.name.ensures c.term.ensures)

pub returns : goal.returns
returns c = binding_ends c.args.from c.args.waiting.now c.args.bound.now c.names.waiting c.names.bound c.names.invariant (omega (arith, c.names-test.false, c.len.ensures, c.names.invariant.low))
