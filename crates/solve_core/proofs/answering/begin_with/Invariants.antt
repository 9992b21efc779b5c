-- The same terms are asked about.
use Rattle.solve_core.proofs.answering.begin_with.Given as goal

abbrev pub ghost-try_and_search : goal.ghost-try_and_search
ghost-try_and_search g a = g.asked
