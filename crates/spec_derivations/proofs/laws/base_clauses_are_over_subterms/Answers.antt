-- That base clauses are over subterms.
use Rattle.spec_derivations.proofs.Over.{base_over}
use Rattle.spec_derivations.proofs.laws.base_clauses_are_over_subterms.Goals as goal

pub returns : goal.returns
returns c = base_over c.subterms_are_least.ensures.there c.subterms_are_least.ensures.closed
