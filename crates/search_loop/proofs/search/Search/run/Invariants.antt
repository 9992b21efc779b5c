-- What each round leaves: all fits together, the theory keeps up and came by the exchanges that are kept, in no more runs than are
-- paid for, and the search is still one for the same terms. Each round learns a clause, or assigns an atom more.
use Rattle.std.proofs.Common.{◌+◌, ◌-◌, ◌*◌, ℕ, List, length}
use Rattle.spec_sorts.specs.Terms.{Term}
use Rattle.search_loop.specs.Search.{SearchFits}
use Rattle.search_loop.specs.Rounds.{Continues}
use Rattle.search_loop.specs.Asking.{IsAsked}
use Rattle.search_loop.specs.Paying.{counted_held, atoms_of, paid, paid_by, IsPaid}
use Rattle.search_loop.proofs.search.Search.run.Given as goal

abbrev pub invariant-rounds : goal.invariant-rounds
invariant-rounds g l = record {
  ready : SearchFits l.table l.self;
  asked : IsAsked (g.T.Theory.meaning l.theory).view l.self;
  with : (g.T.Theory.meaning l.theory).goes_with l.table;
  came : (ts : List Term) (r : ℕ) → IsPaid (λ n. (g.T.Theory.meaning l.fn.theory).running.came_by l.fn.table ts n l.fn.self.budget.exchanges) (paid_by l.fn.table l.fn.self r 0)
      → IsPaid (λ n. (g.T.Theory.meaning l.theory).running.came_by l.table ts n l.self.budget.exchanges)
      (paid (atoms_of l.fn.table l.fn.self) (length l.self.budget.learned) r (counted_held l.table (g.T.Theory.meaning l.theory).view.held));
  continues : Continues l.fn.table l.table l.fn.self l.self;
}

abbrev pub decreases-rounds : goal.decreases-rounds
decreases-rounds g l = (l.self.budget.limit - length l.self.budget.learned) * (l.self.trail.vars + 1) + (l.self.trail.vars - length l.self.trail.literals)
