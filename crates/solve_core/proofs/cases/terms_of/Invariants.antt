-- Those up to here.
use Rattle.std.proofs.Common.{◌≡◌, map, take}
use Rattle.case_equalities.specs.declared.equalities.CaseEquality.{CaseEquality}
use Rattle.solve_core.proofs.cases.terms_of.Given as goal

abbrev pub invariant-loop-x : goal.invariant-loop-x
invariant-loop-x l = l.ids.items ≡ map (λ (x : CaseEquality). x.equality) (take l.x-index l.found)
