-- Which terms a search speaks of.
use Rattle.spec_sorts.proofs.LeastSubterms.{least_of}
use Rattle.spec_derivations.specs.Base.{spoken_terms}
use Rattle.spec_derivations.proofs.SearchTerms.{known_spoken, facts_spoken, equalities_spoken, spoken_atoms, spoken_sorted}
use Rattle.spec_derivations.proofs.search_laws.search_terms_are_known.Goals as goal

pub returns-clause-subterms : goal.returns-clause-subterms
returns-clause-subterms c p u i = known_spoken p u i

pub returns-clause-closed : goal.returns-clause-closed
returns-clause-closed c p t u i j = (least_of (spoken_terms p)).closed t i u j

pub returns-clause-facts : goal.returns-clause-facts
returns-clause-facts c p u i = facts_spoken p u i

pub returns-clause-equalities : goal.returns-clause-equalities
returns-clause-equalities c p w u i j = equalities_spoken p w u i j

pub returns-clause-atoms : goal.returns-clause-atoms
returns-clause-atoms c p u i sorted itself not_true not_false not_fact = spoken_atoms p u i sorted itself not_true not_false not_fact

pub returns-clause-sorted : goal.returns-clause-sorted
returns-clause-sorted c symbols p formulas t i = spoken_sorted symbols p formulas t i
