-- The same terms are asked about.
use Rattle.solve_core.proofs.answering.try_and_search.Given as goal

abbrev pub ghost-search_with : goal.ghost-search_with
ghost-search_with g a = g.asked
