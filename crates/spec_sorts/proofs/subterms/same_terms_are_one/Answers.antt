-- The tests of terms and of fractions tell whether they are one.
use Rattle.spec_sorts.proofs.SameTerms.{terms_decide, fractions_decide}
use Rattle.spec_sorts.proofs.subterms.same_terms_are_one.Goals as goal

pub returns-clause-terms : goal.returns-clause-terms
returns-clause-terms c = terms_decide

pub returns-clause-fractions : goal.returns-clause-fractions
returns-clause-fractions c = fractions_decide
