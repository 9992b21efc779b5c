-- One order more.
use Rattle.std.proofs.Common.{◌+◌}
use Rattle.gen_script.specs.Scripts.{order}
use Rattle.gen_script.proofs.Lines.{one_more}
use Rattle.gen_script.proofs.script.add_orders.Goals as goal

pub loop-i-preserved : goal.loop-i-preserved
loop-i-preserved c = one_more (λ i. order i (i + 1)) c.loop-i.i c.args.text.now.items c.loop-i.text.items c.add_order.new.text.items c.loop-i.invariant c.in_ok-add_order.ensures
