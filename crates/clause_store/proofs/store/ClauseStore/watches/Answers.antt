-- By the lists.
use Rattle.std.proofs.Common.{sym, subst}
use Rattle.clause_store.specs.Stores.{StoreView, AreWatchedBy}
use Rattle.clause_store.specs.QuietPairs.{store_of}
use Rattle.clause_store.proofs.Watches.{watched_by}
use Rattle.clause_store.proofs.store.ClauseStore.watches.Goals as goal

pub returns : goal.returns
returns c =
    let p = c.self.inside.parts in
    subst (λ (s : StoreView). AreWatchedBy s c.args.lit c.list.result.now) c.self.view_is
    (subst (AreWatchedBy (store_of p) c.args.lit) (sym c.list.ensures) (watched_by (store_of p) p.watched.index c.args.lit c.self.invariant.fits.watched.pairs_by c.self.invariant.fits.watched.index_by))
