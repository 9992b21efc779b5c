use Rattle.std.proofs.Common.{◌-◌, length}
use Rattle.tableau.proofs.Noting.{ForgetsSoFar}
use Rattle.tableau.proofs.columns.forget.Given as goal

abbrev pub invariant-columns : goal.invariant-columns
invariant-columns l = ForgetsSoFar l.fn.number l.at l.fn.columns.items l.columns.items

abbrev pub decreases-columns : goal.decreases-columns
decreases-columns l = length l.columns.items - l.at
