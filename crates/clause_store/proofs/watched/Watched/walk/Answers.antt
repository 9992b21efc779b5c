-- The list is out of the index while it is walked.
use Rattle.std.proofs.Common.{sym, subst}
use Rattle.clause_store.specs.Watching.{IsIndexed}
use Rattle.clause_store.proofs.QuietPairs.{goes_none}
use Rattle.clause_store.proofs.Walking.{taken_with, taken_there, none_by}
use Rattle.clause_store.proofs.watched.Watched.walk.Goals as goal

pub walk_list-found-requires-clause-watched : goal.walk_list-found-requires-clause-watched
walk_list-found-requires-clause-watched c = record {
  there = taken_there c.args.self.now.index c.take_list.new.self c.args.f _ c.in-Some.ensures;
  pairs_by = c.requires.watched.pairs_by;
  index_by = taken_with c.args.self.now.pairs.items c.args.self.now.index c.take_list.new.self c.args.f _ c.in-Some.ensures c.requires.watched.index_by;
}

pub returns-in-None-clause-goes : goal.returns-in-None-clause-goes
returns-in-None-clause-goes c = goes_none _ _ _ _

pub returns-in-None-clause-ends : goal.returns-in-None-clause-ends
returns-in-None-clause-ends c = none_by c.args.self.now.pairs.items c.args.self.now.index c.args.trail.now.literals c.args.f c.requires.watched.index_by c.in-None.ensures.1

pub give_list-requires : goal.give_list-requires
give_list-requires c = c.walk_list-found.ensures.watched.there

pub returns-in-Some-clause-watched : goal.returns-in-Some-clause-watched
returns-in-Some-clause-watched c = record {
  pairs_by = c.walk_list-found.ensures.watched.pairs_by;
  index_by = subst (IsIndexed c.walk_list-found.new.self.pairs.items) (sym c.give_list.ensures) c.walk_list-found.ensures.watched.index_by;
}
