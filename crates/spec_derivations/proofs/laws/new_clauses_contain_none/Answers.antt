-- A clause that has a premise is not new.
use Rattle.spec_derivations.proofs.Learned.{contains_none}
use Rattle.spec_derivations.proofs.laws.new_clauses_contain_none.Goals as goal

pub returns : goal.returns
returns c = contains_none
