-- One cycle more.
use Rattle.std.proofs.Common.{ℕ, All, subst, sym}
use Rattle.std.specs.Prelude.{Vec}
use Rattle.std.specs.declared.alloc.Global.{Global}
use Rattle.std.proofs.lemmas.List.Elements.{All-push}
use Rattle.order_cycles.specs.Cycles.{IsCycle}
use Rattle.order_cycles.proofs.cycles.add_cycle.Goals as goal

pub returns : goal.returns
returns c =
    let P : Vec ℕ Global → Type 0 = λ v. IsCycle c.args.orders.now v.items in
    subst (All P) (sym c.in_ok-push.ensures.items)
    (All-push P c.args.cycles.now.items c.args.places c.requires (subst (IsCycle c.args.orders.now) c.deref.ensures.value (c.is_cycle.ensures c.if-not-is_cycle.false)))
