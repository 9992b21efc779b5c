-- The literals up to here.
use Rattle.std.proofs.Common.{take, Contains}
use Rattle.std.specs.Prelude.{All}
use Rattle.term_core.specs.declared.ids.Lit.{Lit}
use Rattle.congruence_explain.proofs.exactness.has_all.Given as goal

abbrev pub invariant-literals : goal.invariant-literals
invariant-literals l = All (λ (m : Lit). Contains l.needed m) (take l.l-index l.clause)
