-- The parts' clauses and steps are the store's.
use Rattle.std.proofs.Common.{ap}
use Rattle.clause_store.specs.Stores.{StoreView}
use Rattle.clause_store.specs.Entries.{bare}
use Rattle.clause_store.proofs.Adding.{adds_same}
use Rattle.clause_store.proofs.store.ClauseStore.propagate.Goals as goal

pub returns-in_err-n-clause-adds : goal.returns-in_err-n-clause-adds
returns-in_err-n-clause-adds c = adds_same c.args.self.now (bare c.self.inside.parts.watched.entries.items) c.args.trail.now c.propagate.new.trail (ap (λ (s : StoreView). s.clauses) c.self.view_is) (ap (λ (s : StoreView). s.steps) c.self.view_is) c.propagate.ensures.adds

pub returns-in-Some-clause-adds : goal.returns-in-Some-clause-adds
returns-in-Some-clause-adds c = adds_same c.args.self.now (bare c.self.inside.parts.watched.entries.items) c.args.trail.now c.propagate.new.trail (ap (λ (s : StoreView). s.clauses) c.self.view_is) (ap (λ (s : StoreView). s.steps) c.self.view_is) c.propagate.ensures.adds

pub returns-in-None-clause-adds : goal.returns-in-None-clause-adds
returns-in-None-clause-adds c = adds_same c.args.self.now (bare c.self.inside.parts.watched.entries.items) c.args.trail.now c.propagate.new.trail (ap (λ (s : StoreView). s.clauses) c.self.view_is) (ap (λ (s : StoreView). s.steps) c.self.view_is) c.propagate.ensures.adds
