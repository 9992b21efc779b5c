-- The loop can go on, and where a literal was implied more hold; else the log alone is changed.
use Rattle.std.proofs.Common.{◌≡◌, ◌<◌, length}
use Rattle.std.specs.Prelude.{MatchBool}
use Rattle.proof_log.specs.Logs.{AreStepsOf}
use Rattle.search_loop.specs.Search.{SearchFits}
use Rattle.search_loop.specs.Rounds.{Continues}
use Rattle.search_loop.specs.Asking.{IsAsked}
use Rattle.search_loop.proofs.search.Search.take_implied.Given as goal

abbrev pub invariant-steps : goal.invariant-steps
invariant-steps g l = record {
  ready : SearchFits l.table l.self;
  asked : IsAsked (g.T.Theory.meaning l.theory).view l.self;
  continues : Continues l.fn.table l.table l.fn.self l.self;
  budget : l.self.budget ≡ l.fn.self.budget;
  steps : AreStepsOf l.self.log l.step-items;
  holds : MatchBool l.implied (length l.fn.self.trail.literals < length l.self.trail.literals) (l.self ≡ record l.fn.self { log = l.self.log });
}
