-- The last one of which at most one literal is left.
use Rattle.std.proofs.Common.{List}
use Rattle.term_core.specs.declared.ids.Lit.{Lit}
use Rattle.clause_literals.specs.Statuses.{IsUnresolved}
use Rattle.congruence_explain.proofs.Lefts.{all_behind}
use Rattle.congruence_explain.proofs.chain.find.Goals as goal

pub waiting-preserved : goal.waiting-preserved
waiting-preserved c = all_behind c.args.waiting.now c.waiting.at c.index-waiting-at.result c.waiting-test.true c.waiting.auto.at c.index-waiting-at.is (λ (d : List Lit). IsUnresolved c.args.held.now d) (rw c.deref.ensures.value at c.in-More.ensures) c.waiting.invariant
