-- Which terms such a search speaks of.
use Rattle.spec_derivations.proofs.OrderedTerms.{searched_whole, whole_closed, equalities_whole, orders_whole, whole_atoms, whole_sorted}
use Rattle.spec_derivations.proofs.search_laws.whole_terms_are_known.Goals as goal

pub returns-clause-searched : goal.returns-clause-searched
returns-clause-searched c p u i = searched_whole p u i

pub returns-clause-closed : goal.returns-clause-closed
returns-clause-closed c p t u i j = whole_closed p t u i j

pub returns-clause-equalities : goal.returns-clause-equalities
returns-clause-equalities c p w u i j = equalities_whole p w u i j

pub returns-clause-orders : goal.returns-clause-orders
returns-clause-orders c p w u i j = orders_whole p w u i j

pub returns-clause-atoms : goal.returns-clause-atoms
returns-clause-atoms c p u i sorted itself not_true not_false not_fact not_order = whole_atoms p u i sorted itself not_true not_false not_fact not_order

pub returns-clause-sorted : goal.returns-clause-sorted
returns-clause-sorted c symbols p formulas t i = whole_sorted symbols p formulas t i
