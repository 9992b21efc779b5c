-- That a conflict has one clause of the point, from the same steps.
use Rattle.conflict_learn.proofs.OnePoint.{clause_within, premises_within}
use Rattle.conflict_learn.proofs.laws.points_are_unique.Goals as goal

pub returns-clause-clause : goal.returns-clause-clause
returns-clause-clause c x n ls ms ps qs a b l = (clause_within x n ls ms ps qs a b l, clause_within x n ms ls qs ps b a l)

pub returns-clause-premises : goal.returns-clause-premises
returns-clause-premises c x n ls ms ps qs a b s = (premises_within x n ls ms ps qs a b s, premises_within x n ms ls qs ps b a s)
