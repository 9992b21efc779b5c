-- The literals up to here.
use Rattle.std.proofs.Common.{take, Contains, ◌⊎◌, ◌↔◌}
use Rattle.term_core.specs.declared.ids.Lit.{Lit}
use Rattle.congruence_explain.proofs.chain.add_each.Given as goal

abbrev pub invariant-loop-l : goal.invariant-loop-l
invariant-loop-l l = (m : Lit) → Contains l.needed m ↔ (Contains l.fn.needed m ⊎ Contains (take l.l-index l.clause) m)
