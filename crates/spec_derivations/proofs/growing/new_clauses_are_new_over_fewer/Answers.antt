-- Propagation over fewer clauses gives no more.
use Rattle.spec_derivations.proofs.Fewer.{new_fewer, all_new_fewer}
use Rattle.spec_derivations.proofs.growing.new_clauses_are_new_over_fewer.Goals as goal

pub returns-clause-one : goal.returns-clause-one
returns-clause-one c more fewer x h n = new_fewer more fewer x h n

pub returns-clause-all : goal.returns-clause-all
returns-clause-all c more fewer cs h n = all_new_fewer more fewer cs h n
