-- Variable by variable.
use Rattle.std.proofs.Common.{false, List, Bool, length, ap, subst, sym, arith}
use Rattle.std.proofs.lemmas.List.{length_push}
use Rattle.search_loop.specs.Waiting.{AreWaiting}
use Rattle.search_loop.proofs.SearchWaiting.{waiting_longer}
use Rattle.search_loop.proofs.decider.Decider.wait_for.Goals as goal

pub variables-preserved : goal.variables-preserved
variables-preserved c = record {
  within = omega (arith, ap length c.in_ok-add_var.ensures.ok, length_push c.variables.self false, c.vars.ensures, ap length c.self.view_is, c.variables-test.true);
  waiting = λ before held h. subst (λ (ws : List Bool). AreWaiting before held ws) (sym c.in_ok-add_var.ensures.ok) (waiting_longer c.variables.self before held (c.variables.invariant.waiting before held h));
}
