-- What a search is asked: terms that are to be true, and the interface equalities of which it may speak.
use Rattle.std.specs.Prelude.{List, ◌++◌}
use Rattle.spec_sorts.specs.Terms.{Term}
use Rattle.spec_sorts.specs.Subterms.{subterms_of}
use Rattle.spec_commands.specs.Stack.{assertions_of, terms_asserted}
use Rattle.spec_commands.specs.Checks.{Check}

-- The terms of a check.
pub record Problem : Type 0 where
  -- those that are asserted
  pub asserted : List Term
  -- those that are assumed for this check alone
  pub assumed : List Term
  -- those that need not be true, of which the search and learned clauses may speak
  pub interface : List Term

-- the terms that are to be true
abbrev pub terms_of_problem : Problem → List Term
terms_of_problem p = p.asserted ++ p.assumed

-- their subterms
abbrev pub subterms_in : Problem → List Term
subterms_in p = subterms_of (terms_of_problem p)

-- the interface equalities, and these
abbrev pub known_terms : Problem → List Term
known_terms p = p.interface ++ terms_of_problem p

-- the subterms of both
abbrev pub known_subterms : Problem → List Term
known_subterms p = subterms_of (known_terms p)

-- a check with these interface equalities
abbrev pub problem_of : Check → List Term → Problem
problem_of c interface = record {
  asserted = terms_asserted (assertions_of c.stack);
  assumed = terms_asserted c.assumptions;
  interface = interface;
}
